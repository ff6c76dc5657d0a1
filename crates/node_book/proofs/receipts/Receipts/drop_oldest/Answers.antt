use Rattle.std.proofs.Common.{◌∙◌, ap, drop, drop-drop}
use Rattle.node_book.proofs.receipts.Receipts.drop_oldest.Goals as goal

pub loop-preserved : goal.loop-preserved
loop-preserved c = c.pop.ensures ∙ ap (drop 1) c.loop.invariant ∙ drop-drop 1 c.loop.counter c.args.self.now
