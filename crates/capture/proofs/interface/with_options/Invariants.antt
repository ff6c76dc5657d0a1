-- The options that are left say what is not yet said.
use Rattle.std.proofs.Common.{◌≡◌, ◌-◌, length}
use Rattle.capture.specs.Interface.{with_options}
use Rattle.capture.proofs.interface.with_options.Given as goal

abbrev pub invariant-options : goal.invariant-options
invariant-options l = with_options l.order (length l.options - l.counter) l.interface l.rest ≡ with_options l.order (length l.options) l.initial.interface l.options
