use Rattle.std.proofs.Common.{◌≡◌, ℕ, ◌<◌}
use Rattle.std.specs.Prelude.{slice_get, Some, IfSome}
use Rattle.std.specs.Option.{option_map}
use Rattle.std.specs.Arc.{arc_value}
use Rattle.bpf_check.specs.Accepted.{IsAccepted}
use Rattle.filter_slots.proofs.slots.Slots.facts.Given as goal

abbrev pub invariant-loop-program : goal.invariant-loop-program
invariant-loop-program l =
    (k : ℕ) (program : _) → k < l.program-index → slice_get l.program-items k ≡ Some program → IfSome (option_map (λ arc. arc_value arc) program) IsAccepted
