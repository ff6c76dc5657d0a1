use Rattle.std.proofs.Common.{◌≡◌, ◌↔◌, length, take}
use Rattle.hmac_md5.proofs.difference.Given as goal

-- no bit has been found exactly if the pairs so far are equal
abbrev pub invariant-loop-x : goal.invariant-loop-x
invariant-loop-x l = (l.bits ≡ 0) ↔ (take (length l.yielded) l.a ≡ take (length l.yielded) l.b)
