use Rattle.std.proofs.Common.{ℕ, None, Some, refl, length, ap, sym, ◌∙◌, arith, vec_capacity}
use Rattle.pending_fetch.specs.Fetches.{Fetches, PendingFetch, numbers}
use Rattle.pending_fetch.specs.Queue.{queue_of}
use Rattle.pending_fetch.specs.Indexes.{is_alone}
use Rattle.pending_fetch.proofs.Calling.{indexed_copied}
use Rattle.pending_fetch.proofs.pending.Pending.copy.Goals as goal

pub keys_of-requires : goal.keys_of-requires
keys_of-requires c = c.self.invariant.0.alone

pub invariant_of-result : goal.invariant_of-result
invariant_of-result c =
    let same = c.in_ok-slots.ensures in (
      indexed_copied c.self.inside.slots c.self.inside.slots c.in_ok-slots.slots c.self.inside.keys c.in_ok-keys.keys c.self.inside.clients c.in_ok-clients.clients c.self.invariant.0 refl same c.in_ok-keys.ensures c.in_ok-clients.ensures,
      record {
        roomy = c.in_ok-undecided.ensures.room;
        queue_is = c.in_ok-undecided.ensures.items ∙ c.self.invariant.1.queue_is ∙ ap queue_of (sym same);
      },
      c.in_ok-order.ensures ∙ c.self.invariant.2 ∙ ap numbers (sym same),
    )
