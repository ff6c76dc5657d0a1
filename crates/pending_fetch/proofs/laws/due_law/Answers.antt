use Rattle.pending_fetch.proofs.Places.{due_at, none_due}
use Rattle.pending_fetch.proofs.laws.due_law.Goals as goal

pub returns : goal.returns
returns c = record {
  some = λ list now number. due_at list now number c.unchanged_law.ensures.expired;
  none = none_due;
}
