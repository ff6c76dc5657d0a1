-- Which addresses are in an IPv4 network.
use Rattle.std.specs.Prelude.{ℕ, ◌-◌, ◌/◌, ◌^◌, ◌==◌, Bool, List}
use Rattle.std.specs.Int.{from_be_bytes, w32}
use Rattle.node_terms.specs.declared.network.Network.{Network}

-- the first `prefix` bits of an address, as a number
abbrev pub first_bits : ℕ → List ℕ → ℕ
first_bits prefix address = from_be_bytes w32 address / 2 ^ (32 - prefix)

-- whether an address is in a network: their first bits are equal
abbrev pub is_inside : List ℕ → Network → Bool
is_inside address network = first_bits network.prefix address == first_bits network.prefix network.addr
