-- A message field by field, as the decoder reads it. No public contract refers to this file.
use Rattle.std.specs.Prelude.{◌≡◌, ℕ, ◌≤◌, ◌/◌, ◌%◌, ◌==◌, List, length, drop, slice_index, Some}
use Rattle.byteorder.specs.Endian.{big_number}
use Rattle.htcp_packet.specs.Message.{Message}
use Rattle.htcp_packet.specs.Reading.{body_at, auth_at, data_octets, auth_octets, form_at}

-- lengths and version have no fault
pub record IsHeader (octets : List ℕ) : Type 0 where
  pub whole : 4 ≤ length octets
  pub len : big_number 2 octets ≡ length octets
  pub major : slice_index octets 2 ≡ 0
  pub data_low : 8 ≤ big_number 2 (drop 4 octets)
  pub data_high : big_number 2 (drop 4 octets) ≤ length (drop 4 octets)

-- each field of the message is what is read at its offset
pub record ReadsAs (octets : List ℕ) (m : Message) : Type 0 where
  pub header : IsHeader octets
  pub minor : m.minor ≡ slice_index octets 3
  pub opcode : m.opcode ≡ slice_index (data_octets octets) 2 / 16
  pub response : m.response ≡ slice_index (data_octets octets) 2 % 16
  pub f1 : m.f1 ≡ (slice_index (data_octets octets) 3 / 2 % 2 == 1)
  pub rr : m.rr ≡ (slice_index (data_octets octets) 3 % 2 == 1)
  pub trans : m.trans ≡ big_number 4 (drop 4 (data_octets octets))
  pub body : body_at (form_at (data_octets octets)) (drop 8 (data_octets octets)) ≡ Some m.body
  pub auth : auth_at (auth_octets octets) ≡ Some m.auth
