use Rattle.std.proofs.Common.{◌≡◌, ◌<◌, ◌≤◌, ◌*◌, List, length, subst, arith}
use Rattle.node_book.specs.Seats.{Claim, receipt_octets}
use Rattle.node_book.proofs.Light.{octets-few}
use Rattle.node_book.proofs.receipts.Receipts.push.Goals as goal

pub overflow_add-self : goal.overflow_add-self
overflow_add-self c =
    let some : length c.args.self.now < 1024 = c.requires in
    let few : receipt_octets c.args.self.now ≤ 4294967295 * length c.args.self.now = octets-few c.args.self.now in
    let same : c.self.inside.octets ≡ receipt_octets c.args.self.now = subst (λ (rs : List Claim). c.self.inside.octets ≡ receipt_octets rs) c.self.view_is c.self.invariant.0 in
    omega (arith, some, few, same, c.contents_of.ensures.few)
