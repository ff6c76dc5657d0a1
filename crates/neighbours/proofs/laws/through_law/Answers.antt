use Rattle.std.proofs.Common.{◌≡◌, ℕ, ◌<◌, ◌≤◌, ◌*◌, inl, inr, arith, true, false}
use Rattle.std.proofs.lemmas.Bool.{cases_lt}
use Rattle.neighbours.specs.Rank.{Before, before}
use Rattle.neighbours.specs.declared.rank.Ranked.{Ranked}
use Rattle.neighbours.proofs.Products.{cross_lt, cross_le, cross_no}
use Rattle.neighbours.proofs.laws.through_law.Goals as goal

said : (a : Ranked) (u : ℕ) (b : Ranked) (v : ℕ) → before a u b v ≡ true → Before a u b v
said a u b v h = grind arith

told : (a : Ranked) (u : ℕ) (b : Ranked) (v : ℕ) → Before a u b v → before a u b v ≡ true
told a u b v h = grind arith

denied : (a : Ranked) (u : ℕ) (b : Ranked) (v : ℕ) → before a u b v ≡ false → (b.s * u ≤ a.s * v) × (a.s * v ≡ b.s * u → b.n ≤ a.n)
denied a u b v h = (grind arith, grind arith)

through : (a b c : Ranked) (u v w : ℕ) → 0 < u → 0 < v → 0 < w →
    Before a u b v → (b.s * w ≤ c.s * v) × (c.s * v ≡ b.s * w → b.n ≤ c.n) → Before a u c w
through a b c u v w u0 v0 w0 (inl p) denial = inl (cross_lt a.s b.s c.s u v w w0 p denial.0)
through a b c u v w u0 v0 w0 (inr p) denial =
    let up : a.s * w ≤ c.s * u = cross_no a.s b.s c.s u v w v0 (omega arith) denial.0 in
    elim (cases_lt (b.s * w) (c.s * v)) [
      | inl q ↦ inl (cross_le a.s b.s c.s u v w u0 (omega arith) q)
      | inr q ↦
          let down : c.s * u ≤ a.s * w = cross_no c.s b.s a.s w v u v0 q (omega arith) in
          inr (omega arith, omega arith)
    ]

pub returns : goal.returns
returns c = λ a b x u v w u0 v0 w0 p q.
    told a u x w (through a b x u v w u0 v0 w0 (said a u b v p) (denied x w b v q))
