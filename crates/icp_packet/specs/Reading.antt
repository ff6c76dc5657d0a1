-- Decoding as a function: each field is read at its offset, and the result is a message exactly if encoding it gives the
-- same octets again.
use Rattle.std.specs.Prelude.{ℕ, zero, suc, ◌+◌, ◌==◌, nat_lt, if◌then◌else◌, List, [], ◌∷◌, length, take, drop, slice_index, Option, Some, None}
use Rattle.std.specs.List.{find}
use Rattle.std.specs.Option.{option_and_then}
use Rattle.std.specs.Str.{bytes_eq}
use Rattle.byteorder.specs.Endian.{big_number}
use Rattle.icp_packet.specs.declared.message.Opcode.{Opcode}
use Rattle.icp_packet.specs.declared.message.Opcode.TheVariants.{Query, Hit, Miss, Error, Secho, Decho, MissNoFetch, Denied, HitObject}
use Rattle.icp_packet.specs.Message.{Body, query, url_only, object, Message, code, spelling}

-- the opcode for an octet
abbrev pub opcode_of : ℕ → Option Opcode
opcode_of octet =
    find (λ op. code op == octet) (Query ∷ Hit ∷ Miss ∷ Error ∷ Secho ∷ Decho ∷ MissNoFetch ∷ Denied ∷ HitObject ∷ [])

-- the octets before the first zero octet
abbrev pub before_zero : List ℕ → List ℕ
before_zero [] = []
before_zero (zero ∷ xs) = []
before_zero (suc n ∷ xs) = suc n ∷ before_zero xs

-- the body read from a payload; an object starts after the zero octet of the URL and two octets of size
abbrev pub body_at : Opcode → List ℕ → Body
body_at Query payload = query (take 4 payload) (before_zero (drop 4 payload))
body_at HitObject payload = object (before_zero payload) (drop (length (before_zero payload) + 3) payload)
body_at op payload = url_only (before_zero payload)

-- the message with this opcode, its fields read at their offsets
abbrev pub message_at : Opcode → List ℕ → Message
message_at op octets = record {
  op = op;
  number = big_number 4 (drop 4 octets);
  options = big_number 4 (drop 8 octets);
  option_data = big_number 4 (drop 12 octets);
  sender = take 4 (drop 16 octets);
  body = body_at op (drop 20 octets);
}

-- the message, if these octets are its encoding and at most 16,384
abbrev pub if_spelled : List ℕ → Message → Option Message
if_spelled octets m = if nat_lt 16384 (length octets) then None else (if bytes_eq octets (spelling m) then Some m else None)

-- the message that the octets encode, if any
unfoldable pub message_of : List ℕ → Option Message
message_of octets = option_and_then (λ op. if_spelled octets (message_at op octets)) (opcode_of (slice_index octets 0))
