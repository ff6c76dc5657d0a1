-- The decimal text of a number is a numeral with its value.
use Rattle.std.proofs.Common.{◌≡◌, ℕ, suc, ◌+◌, ◌-◌, ◌*◌, ◌^◌, ◌<◌, min, List, [], ◌∷◌, length, take, Bool, true, false, cond, ◌&&◌, ◌||◌, nat_eq, nat_lt, decimal, refl, ap, sym, ◌∙◌, arith, rules}
use Rattle.std.specs.Prelude.{codes}
use Rattle.std.specs.Char.{is_ascii_digit}
use Rattle.std.specs.Int.{is_in_range}
use Rattle.std.specs.List.{list_all, list_any}
use Rattle.std.specs.Str.{all_ascii_digits, bytes_eq}
use Rattle.std.proofs.lemmas.Bool.Decides.{nat_tests}
use Rattle.std.proofs.lemmas.Fmt.{digits_decimal, digits_value-decimal, decimal_nonempty}
use Rattle.std.proofs.lemmas.Str.Parse.{IsNumeralModel, numerals_by_fold}
use Rattle.bpf_asm.specs.declared.number.Notation.TheVariants.{Decimal}
use Rattle.bpf_asm.specs.Token.{is_word_octet}
use Rattle.bpf_asm.specs.Number.{digit_value, value_in_base, first_two, notation, IsNumeral, IsNumber}

abbrev read_on : ℕ → List ℕ → ℕ
read_on n [] = n
read_on n (c ∷ cs) = read_on (10 * n + (c - 48)) cs

own : IsNumeralModel (λ ds. all_ascii_digits ds ≡ true) (read_on 0)
own = numerals_by_fold _ (search rules) read_on (search rules)

pub both : (a b : Bool) → (a && b) ≡ true → (a ≡ true) × (b ≡ true)
both true b e = (refl, e)
both false b e = absurd (cc)

pub and_true : (a b : Bool) → a ≡ true → b ≡ true → (a && b) ≡ true
and_true a b p q = ap (λ (x : Bool). x && b) p ∙ q

digits_same : (ds : List ℕ) → all_ascii_digits ds ≡ list_all is_ascii_digit ds
digits_same [] = refl
digits_same (c ∷ cs) = ap (λ (b : Bool). is_ascii_digit c && b) (digits_same cs)

value_same : (n : ℕ) (ds : List ℕ) → list_all is_ascii_digit ds ≡ true → value_in_base 10 n ds ≡ read_on n ds
value_same n [] h = refl
value_same n (c ∷ cs) h =
    let p = both (is_ascii_digit c) (list_all is_ascii_digit cs) h in
    let digit : digit_value c ≡ c - 48 = ap (λ (b : Bool). cond b (c - 48) (cond (nat_lt c 97) (c - 55) (c - 87))) p.0 in
    let next : n * 10 + digit_value c ≡ 10 * n + (c - 48) = omega (arith, digit) in
    ap (λ (m : ℕ). value_in_base 10 m cs) next ∙ value_same (10 * n + (c - 48)) cs p.1

pub decimal_digits : (n : ℕ) → n < 2 ^ 64 → list_all is_ascii_digit (decimal n) ≡ true
decimal_digits n h = sym (digits_same (decimal n)) ∙ digits_decimal own n h

decimal_value : (n : ℕ) → n < 2 ^ 64 → value_in_base 10 0 (decimal n) ≡ n
decimal_value n h = value_same 0 (decimal n) (decimal_digits n h) ∙ digits_value-decimal own n h

same_number : (x y : ℕ) → nat_eq x y ≡ true → x ≡ y
same_number x y e = grind (arith, nat_tests)

apart_with : (c k : ℕ) (b : Bool) → nat_eq c k ≡ b → is_ascii_digit c ≡ true → is_ascii_digit k ≡ false → b ≡ false
apart_with c k true e p q = absurd (let f : is_ascii_digit c ≡ is_ascii_digit k = ap is_ascii_digit (same_number c k e) in cc)
apart_with c k false e p q = refl

-- an octet that is not a digit differs from every digit
pub digit_apart : (c k : ℕ) → is_ascii_digit c ≡ true → is_ascii_digit k ≡ false → nat_eq c k ≡ false
digit_apart c k p q = apart_with c k (nat_eq c k) refl p q

pub digits_words : (ds : List ℕ) → list_all is_ascii_digit ds ≡ true → list_all is_word_octet ds ≡ true
digits_words [] h = refl
digits_words (c ∷ cs) h =
    let p = both (is_ascii_digit c) (list_all is_ascii_digit cs) h in
    let digit : is_in_range 48 57 c ≡ true = p.0 in
    and_true (is_word_octet c) (list_all is_word_octet cs) (ap (λ (b : Bool). ((b || is_in_range 65 90 c) || is_in_range 97 122 c) || nat_eq c 95) digit) (digits_words cs p.1)

and_false : (b : Bool) → (b && false) ≡ false
and_false true = refl
and_false false = refl

no_hexadecimal : (ds : List ℕ) → list_all is_ascii_digit ds ≡ true → bytes_eq (first_two ds) (codes "0x") ≡ false
no_hexadecimal [] h = refl
no_hexadecimal (a ∷ []) h = and_false (nat_eq a 48)
no_hexadecimal (a ∷ b ∷ cs) h =
    let p = both (is_ascii_digit a) (is_ascii_digit b && list_all is_ascii_digit cs) h in
    let q = both (is_ascii_digit b) (list_all is_ascii_digit cs) p.1 in
    let two : min 2 (suc (suc (length cs))) ≡ 2 = omega arith in
    ap (λ (n : ℕ). bytes_eq (take n (a ∷ b ∷ cs)) (codes "0x")) two
    ∙ ap (λ (t : Bool). nat_eq a 48 && (t && true)) (digit_apart b 120 q.0 refl)
    ∙ and_false (nat_eq a 48)

no_dot : (ds : List ℕ) → list_all is_ascii_digit ds ≡ true → list_any (λ (c : ℕ). nat_eq c 46) ds ≡ false
no_dot [] h = refl
no_dot (c ∷ cs) h =
    let p = both (is_ascii_digit c) (list_all is_ascii_digit cs) h in
    ap (λ (b : Bool). b || list_any (λ (c : ℕ). nat_eq c 46) cs) (digit_apart c 46 p.0 refl) ∙ no_dot cs p.1

in_decimal : (ds : List ℕ) → list_all is_ascii_digit ds ≡ true → notation ds ≡ Decimal
in_decimal ds h = rw (no_dot ds h, no_hexadecimal ds h) refl

pub decimal_numeral : (n : ℕ) → n < 2 ^ 64 → IsNumeral (decimal n)
unfolding IsNumeral
decimal_numeral n h = rw (in_decimal (decimal n) (decimal_digits n h)) (decimal_digits n h)

pub decimal_number : (n : ℕ) → n < 2 ^ 32 → IsNumber (decimal n) n
unfolding IsNumber
decimal_number n h =
    let wide : n < 2 ^ 64 = omega arith in
    rw (in_decimal (decimal n) (decimal_digits n wide)) ((decimal_nonempty n wide, decimal_value n wide), h)

pub decimal_words : (n : ℕ) → n < 2 ^ 64 → list_all is_word_octet (decimal n) ≡ true
decimal_words n h = digits_words (decimal n) (decimal_digits n h)
