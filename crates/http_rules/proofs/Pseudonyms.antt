-- Laws about written names.
use Rattle.std.proofs.Common.{◌≡◌, ◌∙◌, ℕ, List, [], ◌∷◌, map, take, Bool, true, false, cond, ◌&&◌, refl, ap}
use Rattle.std.specs.List.{list_all}
use Rattle.std.proofs.lemmas.Bool.{and_parts, leb-true}
use Rattle.std.proofs.lemmas.List.{take_all}
use Rattle.http_header.specs.Token.{is_token_byte}
use Rattle.http_rules.specs.Pseudonyms.{is_short_token, written_octet}

-- what is written may be in a token
pub written_tokens : (text : List ℕ) → list_all is_token_byte (map written_octet text) ≡ true
unfolding is_token_byte
written_tokens [] = refl
written_tokens (c ∷ cs) = by (is_token_byte c) refl (written_tokens cs)
  where
    by : (b : Bool) → is_token_byte c ≡ b → list_all is_token_byte (map written_octet cs) ≡ true
        → (is_token_byte (cond b c 45) && list_all is_token_byte (map written_octet cs)) ≡ true
    by true e ih = rw e ih
    by false e ih = ih

-- what may be in a token is written as it is
pub written_same : (text : List ℕ) → list_all is_token_byte text ≡ true → map written_octet text ≡ text
written_same [] h = refl
written_same (c ∷ cs) h =
    let first : is_token_byte c ≡ true = (and_parts _ _ h).0 in
    let rest : map written_octet cs ≡ cs = written_same cs (and_parts _ _ h).1 in
    rw first (ap (λ (xs : List ℕ). c ∷ xs) rest)

-- what is made of a text of these octets has no others
pub written_harmless : (items front : List ℕ) → items ≡ map written_octet front → list_all is_token_byte items ≡ true
written_harmless items front e = rw e (written_tokens front)

-- a short token is written as it is
pub written_short : (name items front : List ℕ) → items ≡ map written_octet front → front ≡ take 64 name → is_short_token name ≡ true → items ≡ name
written_short name items front e f short =
    let parts = and_parts _ _ short in
    let tokens : list_all is_token_byte name ≡ true = (and_parts _ _ parts.1).1 in
    e ∙ ap (map written_octet) (f ∙ take_all 64 name (leb-true _ _ parts.0)) ∙ written_same name tokens
