-- Truncation of a payload by a verdict. A verdict counts octets of the whole packet, header included.
use Rattle.std.specs.Prelude.{ℕ, ◌-◌, List, take}
use Rattle.bpf_run.specs.Packet.{header_octets}

-- the first `value` minus header octets of the payload: none if that is negative, all if the payload is shorter
abbrev pub cut_of : List ℕ → ℕ → List ℕ
cut_of payload value = take (value - header_octets) payload
