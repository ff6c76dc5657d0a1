use Rattle.std.proofs.Common.{◌≡◌, ◌+◌, ◌==◌, drop}
use Rattle.std.specs.List.{prefix_len}
use Rattle.http_rules.proofs.authorization.space_len.Given as goal

abbrev pub invariant-loop-i : goal.invariant-loop-i
invariant-loop-i l = prefix_len (λ octet. octet == 32) l.text ≡ l.i + prefix_len (λ octet. octet == 32) (drop l.i l.text)
