-- Decoding as a function, from left to right. It agrees with the grammar on all octets (law `read_as_spelled`).
-- `big_number n octets` is the big-endian number in the first n octets.
use Rattle.std.specs.Prelude.{ℕ, ◌-◌, ◌/◌, ◌%◌, ◌==◌, ◌&&◌, nat_lt, nat_le, Bool, if◌then◌else◌, List, length, take, drop, slice_index, Option, Some, None}
use Rattle.byteorder.specs.Endian.{big_number}
use Rattle.htcp_packet.specs.declared.message.Form.{Form}
use Rattle.htcp_packet.specs.declared.message.Form.TheVariants as forms
use Rattle.htcp_packet.specs.Message.{Spec, Details, Body, empty, specifier, clear, detail, cache_headers, opaque, Auth, unsigned, signed, Message, form_of}

-- sequencing: None if the first step gives None
infixl 10 ◌>>=◌
abbrev pub ◌>>=◌ : {A B : Type 0} → Option A → (A → Option B) → Option B
(Some x) >>= f = f x
None >>= f = None

-- a COUNTSTR and the rest
unfoldable pub countstr_at : List ℕ → Option (List ℕ × List ℕ)
countstr_at octets =
    if nat_lt (length octets) 2 then None
    else (if nat_lt (length (drop 2 octets)) (big_number 2 octets) then None
    else Some (take (big_number 2 octets) (drop 2 octets), drop (big_number 2 octets) (drop 2 octets)))

-- a SPECIFIER and the rest
unfoldable pub spec_at : List ℕ → Option (Spec × List ℕ)
spec_at octets = do
  m ← countstr_at octets
  u ← countstr_at m.1
  v ← countstr_at u.1
  h ← countstr_at v.1
  Some (record { method = m.0; uri = u.0; version = v.0; headers = h.0 }, h.1)

-- a DETAIL and the rest
unfoldable pub detail_at : List ℕ → Option (Details × List ℕ)
detail_at octets = do
  r ← countstr_at octets
  e ← countstr_at r.1
  c ← countstr_at e.1
  Some (record { response = r.0; entity = e.0; cache = c.0 }, c.1)

-- the body in OP-DATA of a given layout
unfoldable pub body_at : Form → List ℕ → Option Body
body_at forms.Empty octets = Some empty
body_at forms.Specifier octets = spec_at octets >>= λ s. Some (specifier s.0)
body_at forms.Clear octets = if nat_lt (length octets) 2 then None else (spec_at (drop 2 octets) >>= λ s. Some (clear (slice_index octets 1 % 16) s.0))
body_at forms.Detail octets = detail_at octets >>= λ d. Some (detail d.0)
body_at forms.CacheHeaders octets = if length octets == 0 then Some (cache_headers octets) else (countstr_at octets >>= λ h. Some (cache_headers h.0))
body_at forms.Opaque octets = Some (opaque octets)

-- a signed AUTH, from the octets after its length
unfoldable pub seal_at : List ℕ → Option Auth
seal_at octets = if nat_lt (length octets) 8 then None else (do
  k ← countstr_at (drop 8 octets)
  s ← countstr_at k.1
  Some (signed (record { time = big_number 4 octets; expire = big_number 4 (drop 4 octets); key_name = k.0; signature = s.0 })))

-- AUTH, from the octets after DATA
unfoldable pub auth_at : List ℕ → Option Auth
auth_at octets =
    if length octets == 0 then Some unsigned
    else (if nat_lt (length octets) 2 then None
    else (if big_number 2 octets == 2 then Some unsigned
    else (if nat_lt (big_number 2 octets) 2 then None
    else (if nat_lt (length octets) (big_number 2 octets) then None
    else seal_at (take (big_number 2 octets - 2) (drop 2 octets))))))

-- DATA, whose first two octets are its length
abbrev pub data_octets : List ℕ → List ℕ
data_octets octets = take (big_number 2 (drop 4 octets)) (drop 4 octets)

-- the octets after DATA
abbrev pub auth_octets : List ℕ → List ℕ
auth_octets octets = drop (big_number 2 (drop 4 octets)) (drop 4 octets)

-- the layout of OP-DATA in this DATA
abbrev pub form_at : List ℕ → Form
form_at whole = form_of (slice_index whole 2 / 16) (slice_index whole 2 % 16) (slice_index whole 3 / 2 % 2 == 1) (slice_index whole 3 % 2 == 1)

-- both lengths and MAJOR are valid
abbrev pub has_header : List ℕ → Bool
has_header octets =
    nat_le 4 (length octets) && (big_number 2 octets == length octets) && (slice_index octets 2 == 0)
    && nat_le 8 (big_number 2 (drop 4 octets)) && nat_le (big_number 2 (drop 4 octets)) (length (drop 4 octets))

-- the message with this DATA, body and AUTH
abbrev pub message_with : List ℕ → List ℕ → Body → Auth → Message
message_with octets whole body auth = record {
  minor = slice_index octets 3;
  opcode = slice_index whole 2 / 16;
  response = slice_index whole 2 % 16;
  f1 = slice_index whole 3 / 2 % 2 == 1;
  rr = slice_index whole 3 % 2 == 1;
  trans = big_number 4 (drop 4 whole);
  body = body;
  auth = auth;
}

-- a message, and its DATA as received
pub record Received : Type 0 where
  pub message : Message
  pub raw : List ℕ

-- the message that the octets encode, if any, and their DATA
unfoldable pub message_of : List ℕ → Option Received
message_of octets =
    if has_header octets then
    (do
      body ← body_at (form_at (data_octets octets)) (drop 8 (data_octets octets))
      auth ← auth_at (auth_octets octets)
      Some (record { message = message_with octets (data_octets octets) body auth; raw = data_octets octets }))
    else None
