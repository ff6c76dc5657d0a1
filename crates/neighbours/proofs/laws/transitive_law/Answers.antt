use Rattle.std.proofs.Common.{ℕ, ◌<◌, ◌≤◌, ◌*◌, inl, inr, arith}
use Rattle.neighbours.specs.Rank.{Before}
use Rattle.neighbours.specs.declared.rank.Ranked.{Ranked}
use Rattle.neighbours.proofs.Products.{cross_lt, cross_le, cross_no}
use Rattle.neighbours.proofs.laws.transitive_law.Goals as goal

chain : (a b c : Ranked) (u v w : ℕ) → 0 < u → 0 < v → 0 < w → Before a u b v → Before b v c w → Before a u c w
chain a b c u v w u0 v0 w0 (inl p) (inl q) = inl (cross_lt a.s b.s c.s u v w w0 p (omega arith))
chain a b c u v w u0 v0 w0 (inl p) (inr q) = inl (cross_lt a.s b.s c.s u v w w0 p (omega arith))
chain a b c u v w u0 v0 w0 (inr p) (inl q) = inl (cross_le a.s b.s c.s u v w u0 (omega arith) q)
chain a b c u v w u0 v0 w0 (inr p) (inr q) =
    let up : a.s * w ≤ c.s * u = cross_no a.s b.s c.s u v w v0 (omega arith) (omega arith) in
    let down : c.s * u ≤ a.s * w = cross_no c.s b.s a.s w v u v0 (omega arith) (omega arith) in
    inr (omega arith, omega arith)

pub returns : goal.returns
returns c = chain
