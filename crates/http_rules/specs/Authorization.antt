-- Requests that are authorized by a token, of the scheme Bearer (RFC 6750, section 2.1; RFC 9110, sections 11.4 and 11.6.2).
-- 32 is a space. The scheme's name has 6 octets.
use Rattle.std.specs.Prelude.{ℕ, List, [], ◌∷◌, codes, bytes_eq, take, drop, nat_le, ◌==◌, ◌&&◌, Bool, false}
use Rattle.std.specs.List.{prefix_len}
use Rattle.http_header.specs.Token.{lowercase}
use Rattle.http_rules.specs.Fields.{Field, values_of}

-- one or more spaces, and the token
abbrev pub is_token_after : List ℕ → List ℕ → Bool
is_token_after token text =
    let spaces = prefix_len (λ octet. octet == 32) text in
    nat_le 1 spaces && bytes_eq (drop spaces text) token

-- the scheme Bearer in any case, one or more spaces, and the token
abbrev pub is_bearer : List ℕ → List ℕ → Bool
is_bearer token value = bytes_eq (lowercase (take 6 value)) (codes "bearer") && is_token_after token (drop 6 value)

-- whether these are one value, which has the token
abbrev pub is_only_bearer : List ℕ → List (List ℕ) → Bool
is_only_bearer token [] = false
is_only_bearer token (value ∷ []) = is_bearer token value
is_only_bearer token (value ∷ (other ∷ values)) = false

-- whether there is exactly one Authorization field, and it has the token
abbrev pub is_authorized : List ℕ → List Field → Bool
is_authorized token fields = is_only_bearer token (values_of (codes "authorization") fields)
