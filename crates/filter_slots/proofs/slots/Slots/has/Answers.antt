use Rattle.std.proofs.Common.{◌≡◌, sym, ap, ◌∙◌, nat_lt}
use Rattle.filter_slots.proofs.Seats.{length-seated}
use Rattle.filter_slots.proofs.slots.Slots.has.Goals as goal

pub returns-in-Neighbour : goal.returns-in-Neighbour
returns-in-Neighbour c =
    rw (c.in-Neighbour.is, sym c.self.view_is)
    (ap (nat_lt c.in-Neighbour.n) (c.len.ensures.value ∙ c.self.invariant ∙ sym (length-seated c.self.inside.senders _)))
