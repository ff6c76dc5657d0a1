use Rattle.std.proofs.Common.{◌≤◌, ◌∙◌, sym, arith}
use Rattle.node_book.specs.Seats.{receipt_octets}
use Rattle.node_book.proofs.Light.{light-whole}
use Rattle.node_book.proofs.receipts.Receipts.lighten.Goals as goal

pub returns : goal.returns
returns c =
    let few : receipt_octets c.heavy.self ≤ c.args.room = omega (arith, c.octets.ensures, c.heavy-test.false) in
    sym (light-whole c.args.room c.heavy.self few) ∙ c.heavy.invariant
