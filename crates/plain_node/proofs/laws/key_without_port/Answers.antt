use Rattle.plain_node.proofs.UriKeyLemmas.{key_without}
use Rattle.plain_node.proofs.laws.key_without_port.Goals as goal

pub returns : goal.returns
returns c = key_without
