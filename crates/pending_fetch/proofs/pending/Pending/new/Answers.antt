use Rattle.std.proofs.Common.{ℕ, None, Some, refl, length, ap, sym, ◌∙◌, arith, vec_capacity}
use Rattle.pending_fetch.specs.Fetches.{Fetches, PendingFetch, numbers}
use Rattle.pending_fetch.specs.Queue.{queue_of}
use Rattle.pending_fetch.proofs.Calling.{indexed_new}
use Rattle.pending_fetch.proofs.pending.Pending.new.Goals as goal

pub invariant_of-result : goal.invariant_of-result
invariant_of-result c = (
  indexed_new c.new-3.result c.new-4.result c.in_ok-clients.clients c.new-3.ensures c.new-4.ensures c.in_ok-clients.ensures,
  record {
    roomy = omega (arith, c.in_ok-undecided.ensures.exact);
    queue_is = c.in_ok-undecided.ensures.items ∙ sym (ap queue_of c.new-3.ensures);
  },
  c.in_ok-order.ensures ∙ sym (ap numbers c.new-3.ensures),
)
