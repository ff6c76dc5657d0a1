-- Signatures of HTCP messages, verified and made over the datagram's addresses and ports, at the whole seconds of the clock
-- (RFC 2756, with this project's choice of what a signature covers).
use Rattle.std.specs.Prelude.{ℕ, ◌/◌, Bool, true, false, List, Option, Some, None, option_map}
use Rattle.std.specs.Str.{bytes_eq}
use Rattle.node_terms.specs.declared.ends.End.{End}
use Rattle.filter_slots.specs.Datagram.{ends_of}
use Rattle.htcp_packet.specs.declared.verifying.Sign.{Sign}
use Rattle.htcp_packet.specs.declared.verifying.Sign.TheVariants as sign
use Rattle.htcp_packet.specs.Message.{Message, Auth, unsigned, signed}
use Rattle.htcp_packet.specs.Reading.{Received}
use Rattle.htcp_packet.specs.Signing.{sign_of, sealed}
use Rattle.htcp_packet.specs.Writing.{message_text, without_auth}
use Rattle.neighbours.specs.declared.key.Key.{Key}
use Rattle.neighbours.specs.Rows.{secret_of}
use Rattle.plain_node.specs.PlainNode.{PlainNode}

-- a key: its name and its secret
pub record SigningKey : Type 0 where
  pub name : List ℕ
  pub secret : List ℕ

-- the verdict on the signature of a received message: there is none, it is good with this key, or it is bad
pub data SignatureStanding : Type 0 where
  absent : SignatureStanding
  good : SigningKey → SignatureStanding
  bad : SignatureStanding

abbrev pub is_absent : SignatureStanding → Bool
is_absent absent = true
is_absent (good key) = false
is_absent bad = false

abbrev pub is_bad : SignatureStanding → Bool
is_bad absent = false
is_bad (good key) = false
is_bad bad = true

-- the key of a good signature
abbrev pub key_of_standing : SignatureStanding → Option SigningKey
key_of_standing absent = None
key_of_standing (good key) = Some key
key_of_standing bad = None

-- whether a signature is good, with the key of this name
abbrev pub is_good_by : List ℕ → SignatureStanding → Bool
is_good_by name absent = false
is_good_by name (good key) = bytes_eq key.name name
is_good_by name bad = false

-- the second at which signatures are verified and made
abbrev pub seconds_of : PlainNode → ℕ
seconds_of node = node.clock / 1000

-- the key of this name, if there is one
abbrev pub signing_key : List Key → List ℕ → Option SigningKey
signing_key keys name = option_map (λ secret. record { name = name; secret = secret }) (secret_of keys name)

-- the verdict on a signature that was checked with a known key
abbrev pub standing_by_check : SigningKey → Sign → SignatureStanding
standing_by_check key sign.Absent = absent
standing_by_check key sign.Good = good key
standing_by_check key sign.Bad = bad

-- the verdict on a signature, given the key that it names: bad if that key is unknown
abbrev pub standing_by_key : Received → List ℕ → ℕ → Option SigningKey → SignatureStanding
standing_by_key r ends seconds None = bad
standing_by_key r ends seconds (Some key) = standing_by_check key (sign_of r ends key.secret seconds)

-- the verdict on a message's signature, if it has one
abbrev pub standing_of_auth : List Key → Received → List ℕ → ℕ → Auth → SignatureStanding
standing_of_auth keys r ends seconds unsigned = absent
standing_of_auth keys r ends seconds (signed seal) = standing_by_key r ends seconds (signing_key keys seal.key_name)

-- the verdict on the signature of a message received from one end at the other
unfoldable pub standing : PlainNode → End → End → Received → SignatureStanding
standing node from to r = standing_of_auth node.rows.keys r (ends_of from to) (seconds_of node) r.message.auth

-- the octets of a message to a receiver: if there is a key, signed over the node's own HTCP end and the receiver's
abbrev pub text_to : PlainNode → End → Message → Option SigningKey → List ℕ
text_to node to m None = message_text (without_auth m)
text_to node to m (Some key) = message_text (sealed m (ends_of node.settings.htcp to) key.name key.secret (seconds_of node))
