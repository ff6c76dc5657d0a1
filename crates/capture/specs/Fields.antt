-- Numbers in the fields of a capture file and of the packets in it.
use Rattle.std.specs.Prelude.{ℕ, List, drop}
use Rattle.byteorder.specs.Endian.{big_number, little_number}
use Rattle.capture.specs.declared.order.Order.{Order}
use Rattle.capture.specs.declared.order.Order.TheVariants.{Big, Little}

-- the two octets from place `at`, in network order
abbrev pub pair : List ℕ → ℕ → ℕ
pair octets at = big_number 2 (drop at octets)

-- the four octets from place `at`, in the byte order of the machine that wrote the file
abbrev pub word : Order → List ℕ → ℕ → ℕ
word Big octets at = big_number 4 (drop at octets)
word Little octets at = little_number 4 (drop at octets)

-- the two octets from place `at`, likewise
abbrev pub half : Order → List ℕ → ℕ → ℕ
half Big octets at = big_number 2 (drop at octets)
half Little octets at = little_number 2 (drop at octets)
