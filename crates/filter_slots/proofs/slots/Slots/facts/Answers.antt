use Rattle.std.proofs.Common.{◌≡◌, ◌<◌, sym, ap, ◌∙◌, arith}
use Rattle.std.specs.Prelude.{slice_get}
use Rattle.std.specs.Option.{option_map}
use Rattle.std.specs.Arc.{arc_value}
use Rattle.std.proofs.lemmas.Option.{slice_get_within}
use Rattle.filter_slots.proofs.Seats.{all-accepted}
use Rattle.filter_slots.proofs.slots.Slots.facts.Goals as goal

pub returns : goal.returns
returns c = record {
  accepted =
      rw (sym c.self.view_is)
      (all-accepted (option_map (λ arc. arc_value arc)) _ _ c.self.inside.senders c.self.inside.programs.items c.self.invariant c.is_accepted.ensures c.is_accepted-2.ensures
      (λ k item at.
      let there = ap (λ xs. slice_get xs k) c.as_slice-program-items.ensures.value ∙ at in
      let within = slice_get_within c.as_slice-program-items.result.now k item there in
      let end = c.loop-program-test.false in
      c.loop-program.invariant k item (omega arith) there));
}
