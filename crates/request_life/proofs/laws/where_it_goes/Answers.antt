use Rattle.request_life.proofs.Due.{nobody_goes_nowhere, nobody_is_told, server_is_sought, tunnel_is_aimed, past_by}
use Rattle.request_life.proofs.laws.where_it_goes.Goals as goal

pub returns-clause-nowhere : goal.returns-clause-nowhere
returns-clause-nowhere c = nobody_goes_nowhere

pub returns-clause-told : goal.returns-clause-told
returns-clause-told c = nobody_is_told

pub returns-clause-server : goal.returns-clause-server
returns-clause-server c = server_is_sought

pub returns-clause-tunnel : goal.returns-clause-tunnel
returns-clause-tunnel c = tunnel_is_aimed

pub returns-clause-past : goal.returns-clause-past
returns-clause-past c = past_by
