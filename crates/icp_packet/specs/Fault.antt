-- Decoding faults. Each condition refers to the octets alone.
use Rattle.std.specs.Prelude.{◌≡◌, ◌≢◌, ℕ, ◌+◌, ◌<◌, ◌⊎◌, List, ◌∷◌, ◌++◌, length, drop, slice_index}
use Rattle.byteorder.specs.Endian.{big_number}
use Rattle.icp_packet.specs.declared.message.Opcode.{Opcode}
use Rattle.icp_packet.specs.declared.message.Opcode.TheVariants.{Query, HitObject}
use Rattle.icp_packet.specs.declared.fault.IcpFault.{IcpFault}
use Rattle.icp_packet.specs.declared.fault.IcpFault.TheVariants as faults
use Rattle.icp_packet.specs.Message.{code, HasNoZero}

-- the text has no zero octet, or one before its last octet
abbrev pub IsNotEnded : List ℕ → Type 0
IsNotEnded text = HasNoZero text ⊎ ((k : ℕ) × (k + 1 < length text) × (slice_index text k ≡ 0))

-- the URL in the payload of a message with this opcode is malformed
abbrev pub HasUrlFault : Opcode → List ℕ → Type 0
HasUrlFault Query payload = (length payload < 4) ⊎ IsNotEnded (drop 4 payload)
HasUrlFault HitObject payload = HasNoZero payload
HasUrlFault op payload = IsNotEnded payload

-- the size field is truncated, or differs from the number of octets after it
abbrev pub IsWrongSize : List ℕ → Type 0
IsWrongSize rest = (length rest < 2) ⊎ (big_number 2 rest + 2 ≢ length rest)

-- the size field after the URL is wrong
pub record IsNotSized (payload : List ℕ) : Type 0 where
  pub url : List ℕ
  pub rest : List ℕ
  pub url_ends : HasNoZero url
  pub parts : payload ≡ url ++ 0 ∷ rest
  pub wrong : IsWrongSize rest

-- the object in the payload of a message with this opcode is malformed
abbrev pub HasObjectFault : Opcode → List ℕ → Type 0
HasObjectFault HitObject payload = IsNotSized payload
HasObjectFault op payload = ⊥

-- the condition of each fault
abbrev pub HasFault : IcpFault → List ℕ → Type 0
HasFault faults.Short octets = length octets < 20
HasFault faults.Version octets = slice_index octets 1 ≢ 2
HasFault faults.Opcode octets = (op : Opcode) → slice_index octets 0 ≢ code op
HasFault faults.Length octets = (big_number 2 (drop 2 octets) ≢ length octets) ⊎ (16384 < length octets)
HasFault faults.Url octets = (op : Opcode) × (slice_index octets 0 ≡ code op) × HasUrlFault op (drop 20 octets)
HasFault faults.Object octets = (op : Opcode) × (slice_index octets 0 ≡ code op) × HasObjectFault op (drop 20 octets)

-- the order in which faults are tested
abbrev pub place : IcpFault → ℕ
place faults.Short = 1
place faults.Version = 2
place faults.Opcode = 3
place faults.Length = 4
place faults.Url = 5
place faults.Object = 6

-- the fault that is reported: the first whose condition holds
pub record IsFaultOf (octets : List ℕ) (fault : IcpFault) : Type 0 where
  pub holds : HasFault fault octets
  pub first : (other : IcpFault) → place other < place fault → HasFault other octets → ⊥
