-- Decoding faults. Each condition refers to the octets alone.
use Rattle.std.specs.Prelude.{◌≢◌, ℕ, ◌<◌, ◌⊎◌, List, length, drop, slice_index}
use Rattle.byteorder.specs.Endian.{big_number}
use Rattle.htcp_packet.specs.declared.fault.HtcpFault.{HtcpFault}
use Rattle.htcp_packet.specs.declared.fault.HtcpFault.TheVariants as faults
use Rattle.htcp_packet.specs.Message.{Body, Auth, HoldsBody, HoldsAuth}
use Rattle.htcp_packet.specs.Reading.{data_octets, auth_octets, form_at}

-- the condition of each fault: shorter than LENGTH and versions; LENGTH differs; MAJOR is not 0; the LENGTH of DATA is
-- truncated, under 8, or past the end; OP-DATA does not have its layout; the octets after DATA are no AUTH
abbrev pub HasFault : HtcpFault → List ℕ → Type 0
HasFault faults.Short octets = length octets < 4
HasFault faults.Length octets = big_number 2 octets ≢ length octets
HasFault faults.Major octets = slice_index octets 2 ≢ 0
HasFault faults.Data octets = (length (drop 4 octets) < 2) ⊎ ((big_number 2 (drop 4 octets) < 8) ⊎ (length (drop 4 octets) < big_number 2 (drop 4 octets)))
HasFault faults.Text octets = (body : Body) → HoldsBody (form_at (data_octets octets)) body (drop 8 (data_octets octets)) → ⊥
HasFault faults.Auth octets = (auth : Auth) → HoldsAuth auth (auth_octets octets) → ⊥

-- the order in which faults are tested
abbrev pub place : HtcpFault → ℕ
place faults.Short = 1
place faults.Length = 2
place faults.Major = 3
place faults.Data = 4
place faults.Text = 5
place faults.Auth = 6

-- the fault that is reported: the first whose condition holds
pub record IsFaultOf (octets : List ℕ) (fault : HtcpFault) : Type 0 where
  pub holds : HasFault fault octets
  pub first : (other : HtcpFault) → place other < place fault → HasFault other octets → ⊥
