use Rattle.std.proofs.Common.{◌≡◌, arith}
use Rattle.std.proofs.lemmas.Option.{slice_get-get_or}
use Rattle.filter_slots.proofs.Seats.{neighbours-front}
use Rattle.filter_slots.proofs.slots.senders_of.Goals as goal

pub returns-then-not-add-clause-made : goal.returns-then-not-add-clause-made
returns-then-not-add-clause-made c = (
  (λ no. let bad : ⊥ = cc in absurd bad),
  (λ all. absurd (c.add.ensures.refused c.if-not-add.true
      (rw c.loop-neighbour.invariant.so_far
      (neighbours-front c.args.neighbours.now c.loop-neighbour.neighbour-index _ (slice_get-get_or c.args.neighbours.now c.loop-neighbour.neighbour-index _ c.loop-neighbour-test.true) all)))),
)
