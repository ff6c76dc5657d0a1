use Rattle.std.proofs.Common.{◌≡◌, refl, sym, ap, ◌∙◌, arith, rules}
use Rattle.std.specs.Option.{option_map}
use Rattle.std.specs.Arc.{arc_value}
use Rattle.filter_slots.proofs.Seats.{has-there, has-back, with-after, with-before}
use Rattle.filter_slots.proofs.slots.Slots.exchange.Goals as goal

pub returns-in-Neighbour-clause-there : goal.returns-in-Neighbour-clause-there
returns-in-Neighbour-clause-there c =
    let there = c.replace_at.ensures.there in (
      (λ ok. rw (c.in-Neighbour.is, sym c.self.view_is) (has-there (option_map (λ arc. arc_value arc)) c.self.inside.senders c.self.inside.programs.items c.in-Neighbour.n c.self.invariant (there.0 ok))),
      (λ has. there.1 (has-back (option_map (λ arc. arc_value arc)) c.self.inside.senders c.self.inside.programs.items c.in-Neighbour.n c.self.invariant (rw (c.in-Neighbour.is, sym c.self.view_is) at has))),
    )

pub returns-in-Neighbour-clause-after : goal.returns-in-Neighbour-clause-after
returns-in-Neighbour-clause-after c =
    rw (c.in-Neighbour.is, sym c.self.view_is)
    (ap (λ neighbours. record { icp = option_map (λ arc. arc_value arc) c.self.inside.icp; htcp = option_map (λ arc. arc_value arc) c.self.inside.htcp; neighbours = neighbours })
    (with-after (option_map (λ arc. arc_value arc)) c.self.inside.senders c.self.inside.programs c.replace_at.new.programs c.in-Neighbour.n _ c.replace_at.result c.self.invariant c.replace_at.ensures.there.1 c.replace_at.ensures.items c.replace_at.ensures.refused))

pub returns-in-Neighbour-clause-before : goal.returns-in-Neighbour-clause-before
returns-in-Neighbour-clause-before c =
    rw (c.in-Neighbour.is, sym c.self.view_is)
    (with-before (option_map (λ arc. arc_value arc)) c.self.inside.senders c.self.inside.programs.items c.in-Neighbour.n c.replace_at.result c.self.invariant c.replace_at.ensures.before)
