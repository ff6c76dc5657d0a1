use Rattle.std.proofs.Common.{ap, sym, ◌∙◌}
use Rattle.pending_fetch.specs.Fetches.{with_reply}
use Rattle.pending_fetch.proofs.Spots.{none_changed, present, absent}
use Rattle.pending_fetch.proofs.pending.Pending.reply.Goals as goal

pub returns-in_default-clause-list : goal.returns-in_default-clause-list
returns-in_default-clause-list c = ap (λ list. record c.args.self.now { list = list }) (none_changed (with_reply (record { s = c.args.s; n = c.args.n; kind = c.args.kind })) c.args.number c.args.self.now.list (sym c.place.ensures ∙ c.in_default.is))

pub returns-in_default-clause-found : goal.returns-in_default-clause-found
returns-in_default-clause-found c = sym (absent c.args.number c.args.self.now.list (sym c.place.ensures ∙ c.in_default.is))

pub returns-clause-found : goal.returns-clause-found
returns-clause-found c = sym (present c.args.number c.args.self.now.list c.in-Some.place (sym c.place.ensures ∙ c.in-Some.is))
