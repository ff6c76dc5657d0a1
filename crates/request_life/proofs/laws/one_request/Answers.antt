use Rattle.request_life.proofs.Whole.{request_is_received, request_is_same}
use Rattle.request_life.proofs.laws.one_request.Goals as goal

pub returns-clause-received : goal.returns-clause-received
returns-clause-received c = request_is_received

pub returns-clause-stays : goal.returns-clause-stays
returns-clause-stays c = request_is_same
