-- Tokens for the scheme Bearer: a token68 (RFC 9110, section 11.2), the form of a credential in one piece.
-- 61 is an equals sign.
use Rattle.std.specs.Prelude.{◌≡◌, ℕ, ◌≤◌, List, drop, length, codes, nat_le, ◌==◌, ◌&&◌, ◌||◌, Bool, true}
use Rattle.std.specs.List.{prefix_len, list_all, list_any}
use Rattle.std.specs.Char.{is_ascii_alphanumeric}

-- ALPHA, DIGIT, and the six marks
abbrev pub is_token68_octet : ℕ → Bool
is_token68_octet octet = is_ascii_alphanumeric octet || list_any (λ mark. octet == mark) (codes "-._~+/")

-- one or more of these octets, then any number of equals signs
abbrev pub is_token68 : List ℕ → Bool
is_token68 text =
    let end = prefix_len is_token68_octet text in
    nat_le 1 end && list_all (λ octet. octet == 61) (drop end text)

-- a token of an accepted configuration
pub record IsToken (token : List ℕ) : Type 0 where
  pub form : is_token68 token ≡ true
  pub short : length token ≤ 255
