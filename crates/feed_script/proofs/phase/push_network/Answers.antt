use Rattle.plain_node.specs.Settings.{setup_of}
use Rattle.feed_script.proofs.PhaseLemmas.{with-network}
use Rattle.feed_script.proofs.phase.push_network.Goals as goal

pub returns : goal.returns
returns c = with-network (setup_of c.args.config.now) c.push.new.self.items c.args.network c.in_ok-push.ensures.items
