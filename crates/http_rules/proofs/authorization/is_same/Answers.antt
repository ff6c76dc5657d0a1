use Rattle.http_rules.proofs.Equal.{decided}
use Rattle.http_rules.proofs.authorization.is_same.Goals as goal

pub returns : goal.returns
returns c = decided c.same.result c.args.a.now c.args.b.now c.same.ensures
