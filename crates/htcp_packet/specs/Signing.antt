-- Signatures (RFC 2756, with this project's choice of the signed octets): when one is good, and the one that `sign` makes.
-- Ends are 12 octets: IPv4 address and port of the sender, then of the receiver. Times are seconds since 1970-01-01 UTC.
use Rattle.std.specs.Prelude.{◌≡◌, ℕ, ◌+◌, ◌<◌, ◌≤◌, ◌^◌, min, Bool, ◌&&◌, nat_le, nat_lt, if◌then◌else◌, List, ◌∷◌, ◌++◌, length}
use Rattle.std.specs.Str.{bytes_eq}
use Rattle.byteorder.specs.Endian.{big_bytes}
use Rattle.hmac_md5.specs.Hmac.{hmac}
use Rattle.htcp_packet.specs.declared.verifying.Sign.{Sign}
use Rattle.htcp_packet.specs.declared.verifying.Sign.TheVariants.{Absent, Good, Bad}
use Rattle.htcp_packet.specs.Message.{Auth, unsigned, signed, Seal, Message, countstr}
use Rattle.htcp_packet.specs.Reading.{Received}
use Rattle.htcp_packet.specs.Writing.{data_text, message_text, most_octets, IsWritable}
use Rattle.wire_octets.specs.Octets.{IsOctets}

-- the signed octets: the ends, the version (MAJOR is 0), both times, DATA as received, and KEY-NAME with its length
abbrev pub covered : List ℕ → ℕ → ℕ → ℕ → List ℕ → List ℕ → List ℕ
covered ends minor time expire raw key_name =
    ends ++ (0 ∷ minor ∷ big_bytes 4 time ++ big_bytes 4 expire ++ (raw ++ countstr key_name))

-- the signature matches the message, its time is at most 60 seconds ahead, and it has not expired
pub record IsGoodSeal (s : Seal) (minor : ℕ) (raw ends secret : List ℕ) (seconds : ℕ) : Type 0 where
  pub signature : s.signature ≡ hmac secret (covered ends minor s.time s.expire raw s.key_name)
  pub begun : s.time ≤ seconds + 60
  pub lasts : seconds < s.expire

-- the same of an AUTH, which must be signed
abbrev pub IsGoodAuth : Auth → ℕ → List ℕ → List ℕ → List ℕ → ℕ → Type 0
IsGoodAuth unsigned minor raw ends secret seconds = ⊥
IsGoodAuth (signed s) minor raw ends secret seconds = IsGoodSeal s minor raw ends secret seconds

-- at this second, a message received between these ends has a good signature for the secret
abbrev pub IsGood : Received → List ℕ → List ℕ → ℕ → Type 0
IsGood r ends secret seconds = IsGoodAuth r.message.auth r.message.minor r.raw ends secret seconds

-- the same as a boolean function
abbrev pub good_seal : Seal → ℕ → List ℕ → List ℕ → List ℕ → ℕ → Bool
good_seal s minor raw ends secret seconds =
    bytes_eq s.signature (hmac secret (covered ends minor s.time s.expire raw s.key_name))
    && nat_le s.time (seconds + 60) && nat_lt seconds s.expire

-- the result of verifying an AUTH
abbrev pub auth_sign : Auth → ℕ → List ℕ → List ℕ → List ℕ → ℕ → Sign
auth_sign unsigned minor raw ends secret seconds = Absent
auth_sign (signed s) minor raw ends secret seconds = if good_seal s minor raw ends secret seconds then Good else Bad

-- the result of verifying a message
abbrev pub sign_of : Received → List ℕ → List ℕ → ℕ → Sign
sign_of r ends secret seconds = auth_sign r.message.auth r.message.minor r.raw ends secret seconds

-- the second at which a signature made at this second expires
abbrev pub expiry : ℕ → ℕ
expiry seconds = min (seconds + 60) 4294967295

-- the seal that signing with a key of this name and secret produces
abbrev pub seal_for : Message → List ℕ → List ℕ → List ℕ → ℕ → Seal
seal_for m ends name secret seconds = record {
  time = seconds;
  expire = expiry seconds;
  key_name = name;
  signature = hmac secret (covered ends m.minor seconds (expiry seconds) (data_text m) name);
}

-- the message with that seal in place of its AUTH
abbrev pub sealed : Message → List ℕ → List ℕ → List ℕ → ℕ → Message
sealed m ends name secret seconds = record m { auth = signed (seal_for m ends name secret seconds) }

-- the decoded form of that message
abbrev pub sealed_received : Message → List ℕ → List ℕ → List ℕ → ℕ → Received
sealed_received m ends name secret seconds = record { message = sealed m ends name secret seconds; raw = data_text m }

-- the message can be signed with a key of this name and secret: its numbers are in range, and the result fits a datagram
pub record IsSignable (m : Message) (ends name secret : List ℕ) (seconds : ℕ) : Type 0 where
  pub writable : IsWritable m
  pub trans : m.trans < 2 ^ 32
  pub seconds_fit : seconds < 2 ^ 32
  pub octets : IsOctets (message_text (sealed m ends name secret seconds))
  pub short : length (message_text (sealed m ends name secret seconds)) ≤ most_octets
