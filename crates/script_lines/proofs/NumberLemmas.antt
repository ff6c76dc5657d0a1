-- Decimal numbers, read digit by digit.
use Rattle.std.proofs.Common.{◌≡◌, ◌∙◌, sym, ap, ℕ, suc, ◌+◌, ◌-◌, ◌*◌, ◌<◌, Bool, true, false, cond, ◌&&◌, nat_le, nat_eq, List, [], ◌∷◌, length, get_or, drop, refl, arith, drop-cons, Option, Some, None, if◌then◌else◌}
use Rattle.std.specs.Prelude.{not}
use Rattle.std.specs.Char.{is_ascii_digit}
use Rattle.std.specs.List.{list_all}
use Rattle.script_lines.specs.Words.{number}
use Rattle.wire_octets.specs.Decimal.{value_after}

-- the value of the digits appended to n, if it is at most `most`
abbrev pub number_after : ℕ → ℕ → List ℕ → Option ℕ
number_after most n [] = if nat_le n most then Some n else None
number_after most n (c ∷ cs) = if is_ascii_digit c then number_after most (n * 10 + (c - 48)) cs else None

after-whole : (most n : ℕ) (cs : List ℕ) → number_after most n cs ≡ (if list_all is_ascii_digit cs && nat_le (value_after n cs) most then Some (value_after n cs) else None)
after-whole most n [] = refl
after-whole most n (c ∷ cs) =
    elim (is_ascii_digit c) as (λ b. cond b (number_after most (n * 10 + (c - 48)) cs) None
    ≡ cond ((b && list_all is_ascii_digit cs) && nat_le (value_after (n * 10 + (c - 48)) cs) most) (Some (value_after (n * 10 + (c - 48)) cs)) None) [
      | true ↦ after-whole most (n * 10 + (c - 48)) cs
      | false ↦ refl
    ]

-- reading digit by digit gives the number of the whole text
pub number_after-whole : (most : ℕ) (text : List ℕ) → nat_eq (length text) 0 ≡ false → number_after most 0 text ≡ number most text
number_after-whole most text some =
    after-whole most 0 text
    ∙ ap (λ (empty : Bool). if (not empty && list_all is_ascii_digit text) && nat_le (value_after 0 text) most then Some (value_after 0 text) else None) (sym some)

-- once the value exceeds the bound, it does so with more digits
number_after_big : (most n : ℕ) (cs : List ℕ) → most < n → number_after most n cs ≡ None
number_after_big most n [] h = grind arith
number_after_big most n (c ∷ cs) h =
    elim (is_ascii_digit c) as (λ b. cond b (number_after most (n * 10 + (c - 48)) cs) None ≡ None) [
      | true ↦ number_after_big most (n * 10 + (c - 48)) cs (omega arith)
      | false ↦ refl
    ]

-- a digit that takes the value past the bound ends the reading
number_stops_at : (most n c : ℕ) (cs : List ℕ) → most < n * 10 + (c - 48) → number_after most n (c ∷ cs) ≡ None
number_stops_at most n c cs h =
    elim (is_ascii_digit c) as (λ b. cond b (number_after most (n * 10 + (c - 48)) cs) None ≡ None) [
      | true ↦ number_after_big most (n * 10 + (c - 48)) cs h
      | false ↦ refl
    ]

pub number_stops : (most n : ℕ) (text : List ℕ) (i : ℕ) → i < length text → most < n * 10 + (get_or text i 0 - 48) → number_after most n (drop i text) ≡ None
number_stops most n text i inside h =
    rw (drop-cons text i 0) (number_stops_at most n (get_or text i 0) (drop (suc i) text) h)
