use Rattle.plain_node.proofs.UriKeyLemmas.{key_itself}
use Rattle.plain_node.proofs.laws.key_is_the_uri.Goals as goal

pub returns : goal.returns
returns c = key_itself
