-- The name of a cache in header fields: Via's pseudonym is a token (RFC 9110, sections 5.6.2 and 7.6.3). 45 is a hyphen.
use Rattle.std.specs.Prelude.{ℕ, List, length, map, take, nat_le, ◌&&◌, Bool, if◌then◌else◌}
use Rattle.http_header.specs.Token.{is_token_byte}
use Rattle.http_rules.specs.Loops.{is_token}

-- an octet of a name, in whose place a hyphen stands where it may not be in a token
abbrev pub written_octet : ℕ → ℕ
written_octet octet = if is_token_byte octet then octet else 45

-- a name as it is written: its first 64 octets
abbrev pub written_name : List ℕ → List ℕ
written_name name = map written_octet (take 64 name)

-- whether a name is a token of at most 64 octets, and so is written as it is
abbrev pub is_short_token : List ℕ → Bool
is_short_token name = nat_le (length name) 64 && is_token name
