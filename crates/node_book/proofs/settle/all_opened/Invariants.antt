use Rattle.std.proofs.Common.{◌≡◌, ◌<◌, ℕ}
use Rattle.std.specs.Prelude.{count_by, ◌==◌}
use Rattle.node_book.proofs.settle.all_opened.Given as goal

abbrev pub invariant-loop-place : goal.invariant-loop-place
invariant-loop-place g l = (p : ℕ) → p < l.place → count_by (λ s. s.place == p) l.seats ≡ 1
