-- Where a key leads to. A key is `http://`, an authority, and a path and a query (RFC 3986, section 3). An authority ends at a slash, a
-- question mark, a number sign or the end of the key (RFC 3986, section 3.2); it is a name or an address, one of IPv6 in brackets, and
-- behind a colon a port, if one is written; where none is, the port is 80 (RFC 9110, section 4.2.1).
-- 35 is a number sign, 47 a slash, 58 a colon, 63 a question mark, 91 and 93 are brackets.
use Rattle.std.specs.Prelude.{◌≡◌, ◌+◌, ◌⊎◌, ℕ, List, [], ◌∷◌, ◌++◌, codes, drop, length, take, nat_le, nat_lt, not, ◌==◌, ◌&&◌, ◌||◌, Bool, true, Option, Some, None, is_none, if◌then◌else◌}
use Rattle.std.specs.List.{list_all, position_or_len}
use Rattle.wire_octets.specs.Decimal.{is_numeral, value_after}
use Rattle.http_rules.specs.HostFields.{place_of}

-- whether an octet ends an authority
abbrev pub ends_authority : ℕ → Bool
ends_authority c = c == 47 || (c == 63 || c == 35)

-- how many octets the authority has that a text begins with
abbrev pub authority_len : List ℕ → ℕ
authority_len text = position_or_len ends_authority text

-- whether what is behind the authority is nothing, or begins with a slash
abbrev pub is_rooted : List ℕ → Bool
is_rooted [] = true
is_rooted (c ∷ cs) = c == 47

-- the request target that is sent to the server itself: what is behind the authority, or a slash (RFC 9112, section 3.2.1)
abbrev pub target_of : List ℕ → List ℕ
target_of [] = 47 ∷ []
target_of (c ∷ cs) = c ∷ cs

-- a text in brackets, as an address of IPv6
pub record IsInBrackets (name : List ℕ) : Type 0 where
  pub inner : List ℕ
  pub spelled : name ≡ 91 ∷ (inner ++ (93 ∷ []))
  pub closed : list_all (λ c. not (c == 93)) inner ≡ true

-- a name in which there is no port: it has no colon, or is in brackets
abbrev pub IsBare : List ℕ → Type 0
IsBare name = (list_all (λ c. not (c == 58)) name ≡ true) ⊎ IsInBrackets name

-- the port that is behind a name: 80 where there is nothing, or the number of 16 bits behind a colon
abbrev pub port_behind : List ℕ → Option ℕ
port_behind [] = Some 80
port_behind (c ∷ digits) =
    if c == 58 && (is_numeral digits && nat_le (value_after 0 digits) 65535) then Some (value_after 0 digits) else None

-- a key leads to the server of this name at this port, which is asked for this target with this authority as the Host
pub record IsDestination (key name : List ℕ) (port : ℕ) (host target : List ℕ) : Type 0 where
  pub rest : List ℕ
  pub written : List ℕ
  pub spelled : key ≡ codes "http://" ++ (host ++ rest)
  pub whole : list_all (λ c. not (ends_authority c)) host ≡ true
  pub rooted : is_rooted rest ≡ true
  pub asked : target ≡ target_of rest
  pub parted : host ≡ name ++ written
  pub bare : IsBare name
  pub numbered : port_behind written ≡ Some port

-- how many octets the name has in an authority that begins with a bracket, which this is behind: up to the closing one, or else to a colon
abbrev pub bracketed_len : List ℕ → ℕ
bracketed_len rest =
    if nat_lt (place_of 93 rest) (length rest) then place_of 93 rest + 2 else place_of 58 rest + 1

-- how many octets the name has in an authority
abbrev pub name_len : List ℕ → ℕ
name_len [] = 0
name_len (c ∷ cs) = if c == 91 then bracketed_len cs else place_of 58 (c ∷ cs)

-- whether what a text, behind `http://`, begins with leads nowhere: where a query or a fragment is right behind its authority, as it is in
-- no URL that was parsed, or what is behind the name is no port
abbrev pub is_nowhere : List ℕ → Bool
is_nowhere text =
    not (is_rooted (drop (authority_len text) text))
    || is_none (port_behind (drop (name_len (take (authority_len text) text)) (take (authority_len text) text)))

abbrev pub leads_nowhere : List ℕ → Bool
leads_nowhere key = is_nowhere (drop 7 key)
