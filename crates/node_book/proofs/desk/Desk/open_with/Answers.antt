use Rattle.std.proofs.Common.{◌<◌, ◌≤◌, arith}
use Rattle.node_book.proofs.desk.Desk.open_with.Goals as goal

pub returns-clause-refused : goal.returns-clause-refused
returns-clause-refused g c =
    let some : 0 < c.args.seats = omega (arith, c.if-seats-eq0.false) in
    let few : c.args.seats ≤ 64 = omega (arith, c.if-seats-gt64.false) in
    (λ wrong within. absurd cc, λ never. absurd (never (some, few)))
