use Rattle.http_rules.proofs.Collected.{name_put}
use Rattle.http_rules.proofs.options.put.Goals as goal

pub returns-in-Ok : goal.returns-in-Ok
returns-in-Ok c = λ other. name_put _ _ c.args.name other c.in-Ok.ensures.keys
