use Rattle.std.proofs.Common.{rules}
use Rattle.http_rules.proofs.Semicolons.{lower_front}
use Rattle.http_rules.proofs.directives.before_semicolon.Goals as goal

pub returns-clause-value : goal.returns-clause-value
returns-clause-value c = lower_front c.args.name.now c.semicolon.result c.semicolon.ensures.value
