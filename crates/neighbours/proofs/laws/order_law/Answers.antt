use Rattle.std.proofs.Common.{◌≡◌, ℕ, zero, suc, ◌<◌, ◌<◌, true, List, [], ◌∷◌, arith}
use Rattle.std.specs.List.{list_all}
use Rattle.neighbours.specs.declared.neighbour.Neighbour.{Neighbour}
use Rattle.neighbours.specs.Rows.{weight_at}
use Rattle.neighbours.specs.Faults.{is_weight}
use Rattle.neighbours.proofs.laws.order_law.Goals as goal

weighs : (neighbours : List Neighbour) (n : ℕ) → list_all (λ neighbour. is_weight neighbour.weight) neighbours ≡ true → 0 < weight_at neighbours n
weighs [] n h = omega arith
weighs (one ∷ others) zero h = grind arith
weighs (one ∷ others) (suc n) h =
    let rest : list_all (λ neighbour. is_weight neighbour.weight) others ≡ true = grind arith in
    weighs others n rest

pub returns : goal.returns
returns c = λ rows h. record {
  irreflexive = λ a. c.irreflexive_law.ensures a (weight_at rows.neighbours a.n);
  transitive = λ a b d.
      c.transitive_law.ensures a b d (weight_at rows.neighbours a.n) (weight_at rows.neighbours b.n) (weight_at rows.neighbours d.n)
      (weighs rows.neighbours a.n h.weights) (weighs rows.neighbours b.n h.weights) (weighs rows.neighbours d.n h.weights);
  total = λ a b. c.total_law.ensures a b (weight_at rows.neighbours a.n) (weight_at rows.neighbours b.n);
}
