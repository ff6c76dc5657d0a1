use Rattle.std.proofs.Common.{◌≡◌, ◌++◌, drop}
use Rattle.object_store.specs.Object.{head_of}
use Rattle.proxy_state.proofs.mailbox.copy_of.Given as goal

abbrev pub invariant-loop-i : goal.invariant-loop-i
invariant-loop-i l = head_of l.copy.items ++ head_of (drop l.i l.fields) ≡ head_of l.fields
