-- The value of a Host field (RFC 9112, section 3.2): Host = uri-host [ ":" port ], with the hosts and ports of URLs (RFC 3986, sections
-- 3.2.2 and 3.2.3). A name may have 253 octets, as those of the DNS (RFC 1035, section 2.3.4, without the two octets that none shows).
-- No address of a version later than 6 is defined, so IPvFuture is no host.
-- 37 is a percent sign, 47 a slash, 58 a colon, 91 and 93 are brackets.
use Rattle.std.specs.Prelude.{◌≡◌, ◌<◌, ◌+◌, ◌⊎◌, ℕ, List, [], ◌∷◌, length, take, drop, nat_le, nat_lt, ◌==◌, ◌&&◌, ◌||◌, Bool, true, false}
use Rattle.std.specs.List.{list_all, position_or_len}
use Rattle.std.specs.Char.{is_ascii_digit, is_ascii_hexdigit}
use Rattle.std.specs.declared.net.ipv6_addr.Ipv6Addr.{Ipv6Addr}
use Rattle.std.specs.Net.Grammar.{IsIpv6Text}
use Rattle.http_rules.specs.Authorities.{is_name_octet}

-- whether a text begins with two hexadecimal digits, as what follows the percent sign of an encoded octet
abbrev pub begins_with_octet : List ℕ → Bool
begins_with_octet [] = false
begins_with_octet (a ∷ []) = false
begins_with_octet (a ∷ b ∷ others) = is_ascii_hexdigit a && is_ascii_hexdigit b

-- reg-name = *( unreserved / pct-encoded / sub-delims ), among which are the texts of IPv4 addresses; it may be empty
abbrev pub is_reg_name : List ℕ → Bool
is_reg_name [] = true
is_reg_name (c ∷ cs) = (is_name_octet c || (c == 37 && begins_with_octet cs)) && is_reg_name cs

-- [ ":" port ] with port = *DIGIT
abbrev pub is_port_part : List ℕ → Bool
is_port_part [] = true
is_port_part (c ∷ digits) = c == 58 && list_all is_ascii_digit digits

-- the place of the first octet that is this one, or the length
abbrev pub place_of : ℕ → List ℕ → ℕ
place_of octet text = position_or_len (λ c. c == octet) text

-- a name and a port, if there is one: no octet of a name is a colon
abbrev pub is_named_host : List ℕ → Bool
is_named_host value =
    let end = place_of 58 value in
    (is_reg_name (take end value) && nat_le end 253) && is_port_part (drop end value)

-- behind an opening bracket, an address of IPv6 (RFC 4291, section 2.2), the closing one, and a port, if there is one
pub record IsBracketedHost (rest : List ℕ) : Type 0 where
  pub address : Ipv6Addr
  pub spelled : IsIpv6Text (take (place_of 93 rest) rest) address
  pub closed : place_of 93 rest < length rest
  pub numbered : is_port_part (drop (place_of 93 rest + 1) rest) ≡ true

-- a value of a Host field
abbrev pub IsHost : List ℕ → Type 0
IsHost [] = true ≡ true
IsHost (c ∷ cs) = ((c ≡ 91) × IsBracketedHost cs) ⊎ (is_named_host (c ∷ cs) ≡ true)

-- whether the name in a cache key is longer than one may be: what is behind `http://`, up to the port or the path
abbrev pub has_long_name : List ℕ → Bool
has_long_name key = nat_lt 253 (position_or_len (λ c. c == 58 || c == 47) (drop 7 key))
