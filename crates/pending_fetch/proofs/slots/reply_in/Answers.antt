use Rattle.std.proofs.Common.{refl, Some, ap, sym, ◌∙◌}
use Rattle.pending_fetch.specs.Fetches.{PendingFetch, with_reply}
use Rattle.std.specs.Option.{option_map}
use Rattle.peer_select.specs.Poll.{decided, matches}
use Rattle.pending_fetch.specs.Calls.{fits}
use Rattle.pending_fetch.proofs.Spots.{set_changed, fetch_at}
use Rattle.pending_fetch.specs.Cells.{nothing}
use Rattle.pending_fetch.proofs.slots.reply_in.Goals as goal

pub returns-clause-list : goal.returns-clause-list
returns-clause-list c = c.reply.ensures.list ∙ set_changed (with_reply (record { s = c.args.s; n = c.args.n; kind = c.args.kind })) c.args.number c.args.slots.now c.args.place nothing _ c.requires.here refl

pub returns-clause-decided : goal.returns-clause-decided
returns-clause-decided c =
    ap (λ b. Some b) c.reply.ensures.decided
    ∙ sym (ap (option_map (λ (f : PendingFetch). decided (with_reply (record { s = c.args.s; n = c.args.n; kind = c.args.kind }) f).round)) (fetch_at c.args.number c.args.slots.now c.args.place nothing c.requires.here))

pub reply-requires-clause-table : goal.reply-requires-clause-table
reply-requires-clause-table c =
    sym (ap (fits c.args.table.now.neighbours) (fetch_at c.args.number c.args.slots.now c.args.place nothing c.requires.here)) ∙ c.requires.table
