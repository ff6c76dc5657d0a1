-- A name in lower case has its first semicolon at the same place.
use Rattle.std.proofs.Common.{◌≡◌, ℕ, ◌+◌, ◌==◌, List, [], ◌∷◌, map, take, not, Bool, true, false, cond, refl, sym, ap, ◌∙◌, inl, inr, arith}
use Rattle.std.specs.Char.{to_ascii_lowercase}
use Rattle.std.specs.List.{position_or_len, prefix_len}
use Rattle.std.proofs.lemmas.List.{take-map}
use Rattle.http_header.specs.Token.{lowercase}
use Rattle.http_rules.specs.Forbidding.{before_semicolon}

lower_semicolon : (c : ℕ) → (to_ascii_lowercase c == 59) ≡ (c == 59)
lower_semicolon c = grind arith

lower_place : (name : List ℕ) → position_or_len (λ c. c == 59) (lowercase name) ≡ position_or_len (λ c. c == 59) name
lower_place [] = refl
lower_place (c ∷ cs) =
    ap (λ (b : Bool). cond (not b) (1 + position_or_len (λ c. c == 59) (lowercase cs)) 0) (lower_semicolon c)
    ∙ ap (λ (n : ℕ). cond (not (c == 59)) (1 + n) 0) (lower_place cs)

pub lower_front : (name : List ℕ) (n : ℕ) → n ≡ position_or_len (λ c. c == 59) name → lowercase (take n name) ≡ before_semicolon (lowercase name)
lower_front name n e =
    sym (take-map to_ascii_lowercase n name) ∙ ap (λ (k : ℕ). take k (lowercase name)) (e ∙ sym (lower_place name))
