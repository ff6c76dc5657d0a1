use Rattle.std.proofs.Common.{rules}
use Rattle.http_rules.proofs.Pseudonyms.{written_short}
use Rattle.http_rules.proofs.pseudonym.written_name.Goals as goal

pub returns-clause-same : goal.returns-clause-same
returns-clause-same c =
    written_short c.args.name.now c.in_ok-written.written.items c.front_of-front.result.now (search rules) c.front_of-front.ensures
