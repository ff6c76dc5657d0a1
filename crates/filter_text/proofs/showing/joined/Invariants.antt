use Rattle.std.proofs.Common.{◌≡◌, ◌++◌, ◌==◌, drop, string_bytes, if◌then◌else◌}
use Rattle.filter_text.specs.Shown.{swap_text, others_text}
use Rattle.filter_text.proofs.showing.joined.Given as goal

abbrev pub invariant-loop-place : goal.invariant-loop-place
invariant-loop-place l = string_bytes l.text ++ (if l.place == 0 then swap_text l.insns else others_text (drop l.place l.insns)) ≡ swap_text l.insns
