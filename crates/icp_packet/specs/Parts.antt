-- Internal contracts between the parts of the decoder. No public contract refers to them.
use Rattle.std.specs.Prelude.{◌≡◌, ℕ, ◌≤◌, List, length, drop, slice_index}
use Rattle.byteorder.specs.Endian.{big_number}
use Rattle.icp_packet.specs.declared.message.Opcode.{Opcode}
use Rattle.icp_packet.specs.declared.fault.IcpFault.{IcpFault}
use Rattle.icp_packet.specs.declared.fault.IcpFault.TheVariants as faults
use Rattle.icp_packet.specs.Message.{code}
use Rattle.icp_packet.specs.Fault.{HasUrlFault, HasObjectFault}

-- the header has no fault, and has this opcode
pub record IsHeader (octets : List ℕ) (op : Opcode) : Type 0 where
  pub whole : 20 ≤ length octets
  pub version : slice_index octets 1 ≡ 2
  pub opcode : slice_index octets 0 ≡ code op
  pub len : big_number 2 (drop 2 octets) ≡ length octets
  pub within : length octets ≤ 16384

-- the faults of a payload
abbrev pub HasBodyFault : IcpFault → Opcode → List ℕ → Type 0
HasBodyFault faults.Url op payload = HasUrlFault op payload
HasBodyFault faults.Object op payload = HasObjectFault op payload
HasBodyFault fault op payload = ⊥
