use Rattle.http_rules.proofs.Hosts.{uncut, unnamed, unnumbered}
use Rattle.http_rules.proofs.authority.authority_of.Goals as goal

pub returns-in_default : goal.returns-in_default
returns-in_default c host port a = uncut c.args.target.now host port c.in_default.ensures.cases a

pub returns-then-not-is_registered_name : goal.returns-then-not-is_registered_name
returns-then-not-is_registered_name c host port a =
    unnamed c.args.target.now host port (c.in-Some.host, c.in-Some.digits) c.in-Some.ensures.cases c.if-not-is_registered_name.ensures a

pub returns-in-None : goal.returns-in-None
returns-in-None c host port a =
    unnumbered c.args.target.now host port (c.in-Some.host, c.in-Some.digits) c.in-Some.ensures.cases c.in-None.ensures a
