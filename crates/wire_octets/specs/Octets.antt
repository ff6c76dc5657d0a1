-- Big-endian numbers at the front of lists of octets. The encoding itself is that of the crate byteorder: big_bytes gives the
-- octets of a number, and big_number the value of the first octets.
use Rattle.std.specs.Prelude.{◌≡◌, ℕ, ◌<◌, ◌≤◌, List, length, drop, get_or}
use Rattle.byteorder.specs.Endian.{big_number}

-- each number of the list is an octet
abbrev pub IsOctets : List ℕ → Type 0
IsOctets xs = (i : ℕ) → get_or xs i 0 < 256

-- the first n octets are the number, and `rest` is what follows them
pub record IsInFront (n : ℕ) (octets : List ℕ) (number : ℕ) (rest : List ℕ) : Type 0 where
  pub whole : n ≤ length octets
  pub number_is : number ≡ big_number n octets
  pub rest_is : rest ≡ drop n octets
