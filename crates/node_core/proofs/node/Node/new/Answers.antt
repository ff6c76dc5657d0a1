use Rattle.plain_node.specs.Settings.{setup_of}
use Rattle.node_core.proofs.Senders.{faultless}
use Rattle.node_core.proofs.node.Node.new.Goals as goal

pub slots_for-requires : goal.slots_for-requires
slots_for-requires c =
    rw (c.deref-2.ensures.value, c.in-Ok.ensures, c.deref.ensures.value) (faultless (setup_of c.args.config) c.in_ok-core.ensures.faultless)
