-- Names that are shorter than a word are not the word.
use Rattle.std.proofs.Common.{◌≡◌, ℕ, ◌<◌, ◌≤◌, ◌==◌, ◌≢◌, List, length, bytes_eq, true, false, sym, ap, ◌∙◌, inl, inr, arith}
use Rattle.std.specs.Char.{to_ascii_lowercase}
use Rattle.std.specs.List.{position_or_len}
use Rattle.std.proofs.lemmas.Bool.{cases_Bool}
use Rattle.std.proofs.lemmas.List.{length-map, length-take}
use Rattle.std.proofs.lemmas.Slice.Eq.{bytes_eq-Decides}
use Rattle.http_header.specs.Token.{lowercase}
use Rattle.http_rules.specs.Forbidding.{before_semicolon}

-- texts of different lengths differ
unlike : (text word : List ℕ) → length text ≢ length word → bytes_eq text word ≡ false
unlike text word n =
    elim (cases_Bool (bytes_eq text word)) [
      | inl t ↦ absurd (n (ap length ((bytes_eq-Decides text word).0 t)))
      | inr f ↦ f
    ]

-- a name of fewer than 7 octets is no word of 7 or more
pub shorter : (name word : List ℕ) → length name < 7 → 7 ≤ length word → bytes_eq (lowercase name) word ≡ false
shorter name word h k =
    unlike (lowercase name) word (λ e. let same : length name ≡ length word = sym (length-map name to_ascii_lowercase) ∙ e in absurd (omega arith))

-- nor is it before a semicolon
pub shorter_front : (name word : List ℕ) → length name < 7 → 7 ≤ length word → bytes_eq (before_semicolon (lowercase name)) word ≡ false
shorter_front name word h k =
    let same : length (lowercase name) ≡ length name = length-map name to_ascii_lowercase in
    let cut = length-take (position_or_len (λ c. c == 59) (lowercase name)) (lowercase name) in
    unlike (before_semicolon (lowercase name)) word (λ e. absurd (grind arith))
