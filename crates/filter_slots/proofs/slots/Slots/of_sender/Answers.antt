use Rattle.std.proofs.Common.{◌≡◌, refl, sym, ap, ◌∙◌, arith, rules}
use Rattle.filter_slots.proofs.Seats.{seated-absent, seated-there}
use Rattle.filter_slots.proofs.slots.Slots.of_sender.Goals as goal

pub returns-in-None : goal.returns-in-None
returns-in-None c =
    rw (sym c.self.view_is) (sym (seated-absent c.self.inside.senders _ c.args.socket c.args.from (c.in-None.ensures.absent refl)))

pub returns-in-Some : goal.returns-in-Some
returns-in-Some c =
    c.of_neighbour.ensures
    ∙ rw (sym c.self.view_is)
    (sym (seated-there c.self.inside.senders _ c.args.socket c.args.from c.in-Some.n c.in-Some.ensures.there (λ m at. c.facts.ensures.apart m c.in-Some.n _ at c.in-Some.ensures.there)))
