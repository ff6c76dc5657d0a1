use Rattle.request_life.proofs.Due.{submitted_as_due, part_is_fetched, stream_is_begun}
use Rattle.request_life.proofs.laws.what_is_submitted.Goals as goal

pub returns-clause-due : goal.returns-clause-due
returns-clause-due c = submitted_as_due

pub returns-clause-whole : goal.returns-clause-whole
returns-clause-whole c = part_is_fetched

pub returns-clause-streamed : goal.returns-clause-streamed
returns-clause-streamed c = stream_is_begun
