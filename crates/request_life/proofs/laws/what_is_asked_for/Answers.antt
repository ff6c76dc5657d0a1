use Rattle.request_life.proofs.Whole.{shared_by, stored_by, whole_by, stream_by}
use Rattle.request_life.proofs.laws.what_is_asked_for.Goals as goal

pub returns-clause-shared : goal.returns-clause-shared
returns-clause-shared c = shared_by

pub returns-clause-stored : goal.returns-clause-stored
returns-clause-stored c = stored_by

pub returns-clause-whole : goal.returns-clause-whole
returns-clause-whole c = whole_by

pub returns-clause-streamed : goal.returns-clause-streamed
returns-clause-streamed c = stream_by
