use Rattle.std.proofs.Common.{refl}
use Rattle.pending_fetch.specs.Fetches.{with_reply, with_end, with_next}
use Rattle.pending_fetch.proofs.Words.{all_waiters-changed}
use Rattle.pending_fetch.proofs.Keeping.{next_waiters}
use Rattle.pending_fetch.proofs.Waits.{waits-opened, waits-joined, waits-left, waits-closed, waits-count}
use Rattle.pending_fetch.proofs.laws.waits_law.Goals as goal

pub returns : goal.returns
returns c = record {
  opened = waits-opened;
  joined = waits-joined;
  left = waits-left;
  closed = waits-closed;
  kept = λ list number reply.
      (all_waiters-changed (with_reply reply) (λ f. refl) number list, all_waiters-changed with_end (λ f. refl) number list, all_waiters-changed with_next next_waiters number list);
  count = waits-count;
}
