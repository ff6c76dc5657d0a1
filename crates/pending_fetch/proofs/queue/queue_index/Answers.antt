use Rattle.pending_fetch.proofs.Queues.{index_front}
use Rattle.pending_fetch.proofs.queue.queue_index.Goals as goal

pub returns-in-Some : goal.returns-in-Some
returns-in-Some c = rw (← c.as_slices.ensures.items) (index_front c.as_slices.result.0.now c.as_slices.result.1.now c.args.number c.in-Some.place c.in-Some.ensures)

pub returns-in-None : goal.returns-in-None
returns-in-None c = rw (← c.as_slices.ensures.items) c.index_behind.ensures
