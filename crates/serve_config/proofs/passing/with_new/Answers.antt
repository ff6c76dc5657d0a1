use Rattle.serve_config.proofs.Methods.{once_with}
use Rattle.serve_config.proofs.passing.with_new.Goals as goal

pub returns-clause-once : goal.returns-clause-once
returns-clause-once c =
    once_with c.args.methods.items c.push.new.self.items c.args.method c.in_ok-push.ensures.items c.requires.once c.requires.new
