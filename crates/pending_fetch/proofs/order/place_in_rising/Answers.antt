use Rattle.std.proofs.Common.{◌≡◌, true, arith, ◌∙◌}
use Rattle.pending_fetch.specs.Numbers.{is_climbing}
use Rattle.pending_fetch.proofs.Rising.{found_by_halves, placed_at}
use Rattle.pending_fetch.proofs.order.place_in_rising.Goals as goal

pub returns-in-Some : goal.returns-in-Some
returns-in-Some c =
    let climbs : is_climbing c.args.list.now ≡ true = grind arith in
    placed_at c.args.list.now c.args.number c.in-Some.place climbs c.in-Some.ensures.0 c.in-Some.ensures.1

pub returns : goal.returns
returns c =
    let climbs : is_climbing c.args.list.now ≡ true = grind arith in
    c.ok.ensures.value ∙ found_by_halves c.args.list.now c.args.number c.binary_search.result c.binary_search.ensures.position climbs
