-- The authority-form of a request target (RFC 9112, section 3.2.3): authority-form = uri-host ":" port. Hosts are restricted to
-- registered names without percent-encoding, among which are the texts of IPv4 addresses (RFC 3986, section 3.2.2). 58 is a colon.
use Rattle.std.specs.Prelude.{ℕ, ◌≡◌, List, ◌∷◌, ◌++◌, codes, length, not, nat_le, ◌==◌, ◌&&◌, ◌||◌, Bool, true, Option, Some, None, if◌then◌else◌}
use Rattle.std.specs.List.{list_any, list_all}
use Rattle.std.specs.Char.{is_ascii_alphanumeric}
use Rattle.wire_octets.specs.Decimal.{is_numeral, value_after}

-- unreserved = ALPHA / DIGIT / "-" / "." / "_" / "~", and the sub-delims
abbrev pub is_name_octet : ℕ → Bool
is_name_octet octet =
    is_ascii_alphanumeric octet || list_any (λ mark. octet == mark) (codes "-._~")
    || list_any (λ mark. octet == mark) (codes "!$&'()*+,;=")

-- one or more of them, at most 253 (RFC 1035, section 2.3.4, without the two octets that no text shows)
abbrev pub is_registered_name : List ℕ → Bool
is_registered_name text = (not (length text == 0) && nat_le (length text) 253) && list_all is_name_octet text

-- the port that a numeral says: 1 to 65,535
abbrev pub port_of : List ℕ → Option ℕ
port_of digits =
    if is_numeral digits && (nat_le 1 (value_after 0 digits) && nat_le (value_after 0 digits) 65535)
    then Some (value_after 0 digits) else None

-- a target that names this host and port
pub record IsAuthority (target host : List ℕ) (port : ℕ) : Type 0 where
  pub digits : List ℕ
  pub spelled : target ≡ host ++ 58 ∷ digits
  pub named : is_registered_name host ≡ true
  pub numbered : port_of digits ≡ Some port
