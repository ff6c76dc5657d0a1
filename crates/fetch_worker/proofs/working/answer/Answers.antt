use Rattle.std.proofs.Common.{inr}
use Rattle.std.proofs.lemmas.Result.{err_from_is_err_and}
use Rattle.fetch_worker.proofs.WorkLemmas.{answered-in-part}
use Rattle.fetch_worker.proofs.working.answer.Goals as goal

pub returns-in_err-pass_on-clause-refused : goal.returns-in_err-pass_on-clause-refused
returns-in_err-pass_on-clause-refused g c =
    let p = err_from_is_err_and c.from_residual-in_err-pass_on.result c.from_residual-in_err-pass_on.ensures.1 in
    let some = c.in_err-pass_on.ensures.some in
    let told = g.C.Clerk.told in
    let answered = answered-in-part (told c.args.clerk.now) (told c.outcome_of-outcome.new.clerk) (told c.submit_result.new.clerk) (told c.pass_on.new.clerk)
    c.in-Fetch.fetch c.in-Fetch.attempt c.outcome_of-outcome.result c.submit_result.new.out c.actions.result.now some.0 some.1
    c.outcome_of-outcome.ensures.same c.outcome_of-outcome.ensures.unknown c.in_ok-submit_result.ensures.taken c.actions.ensures
    some.2 some.3 in
    rw (p.1, c.in-Fetch.is) (inr (some.1, answered))
