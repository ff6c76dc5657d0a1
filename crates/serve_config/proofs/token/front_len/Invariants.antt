use Rattle.std.proofs.Common.{◌≡◌, ◌+◌, drop}
use Rattle.std.specs.List.{prefix_len}
use Rattle.serve_config.specs.Tokens.{is_token68_octet}
use Rattle.serve_config.proofs.token.front_len.Given as goal

abbrev pub invariant-loop-i : goal.invariant-loop-i
invariant-loop-i l = prefix_len is_token68_octet l.text ≡ l.i + prefix_len is_token68_octet (drop l.i l.text)
