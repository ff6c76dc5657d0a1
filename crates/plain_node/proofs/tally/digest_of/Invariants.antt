use Rattle.std.proofs.Common.{take}
use Rattle.std.specs.List.{flat_map}
use Rattle.md5.specs.Md5.{Holds}
use Rattle.plain_node.specs.Tally.{spelled}
use Rattle.plain_node.proofs.tally.digest_of.Given as goal

-- the hasher has taken in the actions so far
abbrev pub invariant-loop-action : goal.invariant-loop-action
invariant-loop-action l = Holds l.hasher (flat_map spelled (take l.action-index l.actions))
