use Rattle.std.proofs.Common.{Some, refl, ap, sym, ◌∙◌}
use Rattle.std.specs.VecDeque.{deque_capacity}
use Rattle.pending_fetch.specs.Fetches.{Fetches, PendingFetch, changed, with_reply, fetch_of}
use Rattle.std.specs.Option.{option_map}
use Rattle.pending_fetch.specs.FetchIndex.{fetch_index}
use Rattle.peer_select.specs.Poll.{decided}
use Rattle.pending_fetch.specs.Calls.{fits}
use Rattle.pending_fetch.proofs.Keeping.{Keeps-reply}
use Rattle.pending_fetch.proofs.Queues.{queue_after, entries_distinct}
use Rattle.pending_fetch.proofs.Calling.{put_view, KeepsKey-reply, indexed_changed, order_changed}
use Rattle.peer_select.specs.declared.reply.Reply.{Reply}
use Rattle.pending_fetch.proofs.Changes.{place_changed, decided_changed}
use Rattle.pending_fetch.proofs.pending.Pending.reply_at.Goals as goal

pub settle-requires : goal.settle-requires
settle-requires c = entries_distinct (deque_capacity c.self.inside.undecided) c.self.inside.undecided.items c.self.inside.slots c.self.invariant.1 c.self.invariant.0.legal.numbered

pub invariant_of-self : goal.invariant_of-self
invariant_of-self c = (
  indexed_changed (with_reply (record { s = c.args.s; n = c.args.n; kind = c.args.kind })) c.args.number c.self.inside.slots c.reply_in-decided.new.slots c.self.inside.keys c.self.inside.clients
      (Keeps-reply (record { s = c.args.s; n = c.args.n; kind = c.args.kind }) c.matching_law.ensures.start_replied) (KeepsKey-reply (record { s = c.args.s; n = c.args.n; kind = c.args.kind })) c.self.invariant.0 c.reply_in-decided.ensures.list,
  queue_after (with_reply (record { s = c.args.s; n = c.args.n; kind = c.args.kind })) c.args.number (deque_capacity c.self.inside.undecided) (deque_capacity c.settle.new.queue) c.self.inside.slots c.reply_in-decided.new.slots c.self.inside.undecided.items c.settle.new.queue.items (Some c.reply_in-decided.result)
      (Keeps-reply (record { s = c.args.s; n = c.args.n; kind = c.args.kind }) c.matching_law.ensures.start_replied)
      (λ f d. ap decided (c.unchanged_law.ensures.reply f.round (record { s = c.args.s; n = c.args.n; kind = c.args.kind }) d) ∙ d)
      c.self.invariant.0.legal.numbered c.self.invariant.1 c.settle.ensures.room c.reply_in-decided.ensures.list c.reply_in-decided.ensures.decided c.settle.ensures.items,
  order_changed (with_reply (record { s = c.args.s; n = c.args.n; kind = c.args.kind })) (λ f. refl) c.args.number c.self.inside.order c.self.inside.slots c.reply_in-decided.new.slots c.self.invariant.2 c.reply_in-decided.ensures.list,
)

pub returns-clause-list : goal.returns-clause-list
returns-clause-list c =
    put_view c.self.inside.last c.reply_in-decided.new.slots c.self.inside.slots (changed (with_reply (record { s = c.args.s; n = c.args.n; kind = c.args.kind })) c.args.number) c.args.self.now c.reply_in-decided.ensures.list c.self.view_is

pub returns-clause-here : goal.returns-clause-here
returns-clause-here c =
    let before = ap (λ (w : Fetches). fetch_index c.args.number w.list) c.self.view_is ∙ c.requires.here in
    ap (fetch_index c.args.number) c.reply_in-decided.ensures.list ∙ place_changed (with_reply (record { s = c.args.s; n = c.args.n; kind = c.args.kind })) (λ f. refl) c.args.number c.args.number c.self.inside.slots ∙ before

pub returns-clause-decided : goal.returns-clause-decided
returns-clause-decided c =
    let reply : Reply = record { s = c.args.s; n = c.args.n; kind = c.args.kind } in
    c.reply_in-decided.ensures.decided
    ∙ sym (decided_changed (with_reply reply) (λ f. refl) c.args.number c.self.inside.slots)
    ∙ ap (λ l. option_map (λ (f : PendingFetch). decided f.round) (fetch_of c.args.number l)) (sym c.reply_in-decided.ensures.list)

pub reply_in-decided-requires-clause-table : goal.reply_in-decided-requires-clause-table
reply_in-decided-requires-clause-table c =
    ap (λ (w : Fetches). fits c.args.table.now.neighbours (fetch_of c.args.number w.list)) c.self.view_is ∙ c.requires.table

pub reply_in-decided-requires-clause-here : goal.reply_in-decided-requires-clause-here
reply_in-decided-requires-clause-here c = ap (λ (w : Fetches). fetch_index c.args.number w.list) c.self.view_is ∙ c.requires.here
