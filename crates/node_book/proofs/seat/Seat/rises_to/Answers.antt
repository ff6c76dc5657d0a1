use Rattle.std.proofs.Common.{◌∙◌, ◌<◌, length, arith}
use Rattle.node_book.proofs.Rising.{rise_low, rise_high}
use Rattle.node_book.proofs.seat.Seat.rises_to.Goals as goal
use Rattle.node_book.proofs.seat.Seat.rises_to.Goals.{then-number, else-number}

pub loop-i-preserved : goal.loop-i-preserved
loop-i-preserved g c =
    let within : c.loop-i.i < length c.args.self.now.receipts = omega arith in
    elim c.if-number.branch [
      | then-number w ↦ w.rising-is ∙ rise_high c.args.self.now.receipts c.loop-i.i c.args.number c.number.result within c.number.ensures w.if-number.true
      | else-number w ↦ w.rising-is ∙ rise_low c.args.self.now.receipts c.loop-i.i c.args.number c.number.result c.loop-i.rising within c.number.ensures w.if-number.false c.loop-i.invariant
    ]
