use Rattle.plain_node.specs.Settings.{setup_of}
use Rattle.feed_script.proofs.PhaseLemmas.{with-neighbour}
use Rattle.feed_script.proofs.phase.push_neighbour.Goals as goal

pub returns : goal.returns
returns c = with-neighbour (setup_of c.args.config.now) c.push.new.self.items c.args.neighbour c.in_ok-push.ensures.items
