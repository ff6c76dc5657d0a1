use Rattle.std.proofs.Common.{◌≡◌, map, refl, ap, Option, Some, None}
use Rattle.std.specs.Option.{option_map}
use Rattle.std.specs.Arc.{arc_value}
use Rattle.filter_slots.specs.Filters.{empty_slot}
use Rattle.filter_slots.specs.Senders.{seated}
use Rattle.filter_slots.proofs.Seats.{seated-empty}
use Rattle.filter_slots.proofs.slots.Slots.new.Goals as goal

pub returns-clause-empty : goal.returns-clause-empty
returns-clause-empty c =
    let same = c.in_ok-senders.ensures.same in
    let e : seated c.in_ok-senders.senders (map (option_map (λ arc. arc_value arc)) c.no_programs.result.items) ≡ map empty_slot c.args.neighbours.now =
    rw (same, c.no_programs.ensures) (seated-empty (option_map (λ arc. arc_value arc)) None refl c.args.neighbours.now _) in
    ap (λ neighbours. record { icp = None; htcp = None; neighbours = neighbours }) e
