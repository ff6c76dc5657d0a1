-- The octets of a payload, owned or shared.
use Rattle.std.specs.Prelude.{ℕ, List}
use Rattle.node_words.specs.declared.action.Owned.{Owned}
use Rattle.node_words.specs.declared.action.Owned.TheVariants.{Alone, InCommon}

abbrev pub payload_octets : Owned → List ℕ
payload_octets (Alone octets) = octets.items
payload_octets (InCommon octets) = octets
