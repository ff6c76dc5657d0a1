-- ICP version 2 (RFC 2186): messages and their encoding.
use Rattle.std.specs.Prelude.{◌≡◌, ◌≢◌, ℕ, ◌+◌, ◌<◌, ◌≤◌, ◌^◌, List, [], ◌∷◌, ◌++◌, length, slice_index}
use Rattle.byteorder.specs.Endian.{big_bytes}
use Rattle.icp_packet.specs.declared.message.Opcode.{Opcode}
use Rattle.icp_packet.specs.declared.message.Opcode.TheVariants.{Query, Hit, Miss, Error, Secho, Decho, MissNoFetch, Denied, HitObject}

-- the payload
pub data Body : Type 0 where
  query : List ℕ → List ℕ → Body
  url_only : List ℕ → Body
  object : List ℕ → List ℕ → Body

-- a message; addresses and texts are lists of octets
pub record Message : Type 0 where
  pub op : Opcode
  pub number : ℕ
  pub options : ℕ
  pub option_data : ℕ
  pub sender : List ℕ
  pub body : Body

-- the opcode as an octet
abbrev pub code : Opcode → ℕ
code Query = 1
code Hit = 2
code Miss = 3
code Error = 4
code Secho = 10
code Decho = 11
code MissNoFetch = 21
code Denied = 22
code HitObject = 23

-- no octet is zero
abbrev pub HasNoZero : List ℕ → Type 0
HasNoZero octets = (k : ℕ) → k < length octets → slice_index octets k ≢ 0

-- the body matches the opcode: requester and URL of a query, URL and object of a hit object, a URL of every other
abbrev pub FitsOpcode : Opcode → Body → Type 0
FitsOpcode Query (query requester url) = (length requester ≡ 4) × HasNoZero url
FitsOpcode Query body = ⊥
FitsOpcode HitObject (object url octets) = HasNoZero url
FitsOpcode HitObject body = ⊥
FitsOpcode op (url_only url) = HasNoZero url
FitsOpcode op body = ⊥

-- the encoded payload: a URL is terminated by a zero octet, an object preceded by its two-octet size
abbrev pub payload : Body → List ℕ
payload (query requester url) = requester ++ (url ++ 0 ∷ [])
payload (url_only url) = url ++ 0 ∷ []
payload (object url octets) = url ++ (0 ∷ big_bytes 2 (length octets) ++ octets)

-- the 20-octet header of a message of this length
abbrev pub header : Message → ℕ → List ℕ
header m len =
    code m.op ∷ 2 ∷ big_bytes 2 len ++ big_bytes 4 m.number ++ big_bytes 4 m.options ++ big_bytes 4 m.option_data ++ m.sender

-- the length of the encoded message
abbrev pub spelled_length : Message → ℕ
spelled_length m = 20 + length (payload m.body)

-- the encoded message
abbrev pub spelling : Message → List ℕ
spelling m = header m (spelled_length m) ++ payload m.body

-- a well-formed message: numbers and address are in range, and the body matches the opcode
pub record IsMessage (m : Message) : Type 0 where
  pub number : m.number < 2 ^ 32
  pub options : m.options < 2 ^ 32
  pub option_data : m.option_data < 2 ^ 32
  pub sender : length m.sender ≡ 4
  pub body : FitsOpcode m.op m.body

-- the octets are the encoding of a well-formed message, within 16,384 octets
pub record Spells (octets : List ℕ) (m : Message) : Type 0 where
  pub message : IsMessage m
  pub spelled : octets ≡ spelling m
  pub within : length octets ≤ 16384
