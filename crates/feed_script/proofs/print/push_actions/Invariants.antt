use Rattle.std.proofs.Common.{◌≡◌, ◌++◌, take}
use Rattle.std.specs.List.{flat_map}
use Rattle.feed_script.specs.Printed.{action_text}
use Rattle.feed_script.proofs.print.push_actions.Given as goal

abbrev pub invariant-loop-action : goal.invariant-loop-action
invariant-loop-action l = l.out.items ≡ l.fn.out.items ++ flat_map (action_text l.node.plain.fetches.list) (take l.action-index l.actions)
