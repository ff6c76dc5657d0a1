use Rattle.plain_node.specs.Settings.{setup_of}
use Rattle.feed_script.proofs.PhaseLemmas.{with-key}
use Rattle.feed_script.proofs.phase.push_key.Goals as goal

pub returns : goal.returns
returns c = with-key (setup_of c.args.config.now) c.push.new.self.items c.args.key c.in_ok-push.ensures.items
