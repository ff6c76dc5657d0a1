use Rattle.std.proofs.Common.{rules, drop, inr, refl}
use Rattle.http_content.proofs.PieceLemmas.{gives_piece, left_of}
use Rattle.http_content.proofs.portions.PortionsBody.poll_frame.Goals as goal

pub returns-in-Ok-clause-value : goal.returns-in-Ok-clause-value
returns-in-Ok-clause-value c = (left_of c.most-most.result (drop c.min-end.result c.as_slice-content.result.now), search (rules, gives_piece))

pub returns-in-Ok-clause-rest : goal.returns-in-Ok-clause-rest
returns-in-Ok-clause-rest c xs last came =
    (left_of c.most-most.result (drop c.min-end.result c.as_slice-content.result.now), search (rules, gives_piece), search rules)

pub returns-in-Err-clause-value : goal.returns-in-Err-clause-value
returns-in-Err-clause-value c = (_, inr (record { error = c.in-Err.e; given = refl; same = refl }))
