-- Texts of printable ASCII.
use Rattle.std.proofs.Common.{◌≡◌, ℕ, zero, suc, ◌+◌, ◌/◌, ◌%◌, ◌<◌, ◌≤◌, Bool, true, false, ◌&&◌, cond, not, nat_lt, nat_eq, List, [], ◌∷◌, ◌++◌, take, decimal, refl, ap, ◌∙◌, arith}
use Rattle.std.specs.List.{list_all, flat_map}
use Rattle.std.specs.Fmt.{digits, digits_onto, digit_glyph}
use Rattle.std.proofs.lemmas.Bool.Decides.{nat_tests}
use Rattle.std.proofs.lemmas.List.Folds.{list_all-append}
use Rattle.httpdate.specs.Text.{two_digits}
use Rattle.access_log.specs.declared.entry.Form.{Form}
use Rattle.access_log.specs.declared.entry.Form.TheVariants.{Common, Json}
use Rattle.access_log.specs.Escaped.{is_printable, is_plain, hex_digit, mark, escaped_octet, escaped}

abbrev pub Clean : List ℕ → Type 0
Clean xs = list_all is_printable xs ≡ true

pub and_true : (a b : Bool) → a ≡ true → b ≡ true → (a && b) ≡ true
and_true a b p q = ap (λ (x : Bool). x && b) p ∙ q

pub both : (a b : Bool) → (a && b) ≡ true → (a ≡ true) × (b ≡ true)
both true b e = (refl, e)
both false b e = absurd (cc)

pub clean_both : (a b : List ℕ) → Clean a → Clean b → Clean (a ++ b)
clean_both a b p q = list_all-append is_printable a b ∙ and_true (list_all is_printable a) (list_all is_printable b) p q

pub printable : (n : ℕ) → 32 ≤ n → n ≤ 126 → is_printable n ≡ true
printable n lo hi = grind (arith, nat_tests)

pub clean_one : (n : ℕ) (xs : List ℕ) → 32 ≤ n → n ≤ 126 → Clean xs → Clean (n ∷ xs)
clean_one n xs lo hi h = and_true (is_printable n) (list_all is_printable xs) (printable n lo hi) h

-- numbers
glyph_clean : (d : ℕ) (b : Bool) → d < 10 → is_printable (cond b (48 + d) (87 + d)) ≡ true
glyph_clean d true h = printable (48 + d) (omega arith) (omega arith)
glyph_clean d false h = printable (87 + d) (omega arith) (omega arith)

pub clean_either : (b : Bool) (xs ys : List ℕ) → Clean xs → Clean ys → Clean (cond b xs ys)
clean_either true xs ys h k = h
clean_either false xs ys h k = k

onto_clean : (k n : ℕ) (acc : List ℕ) → Clean acc → Clean (digits_onto k 10 false n acc)
onto_clean zero n acc h = h
onto_clean (suc k) n acc h =
    let next : Clean (digit_glyph false (n % 10) ∷ acc) =
    and_true (is_printable (digit_glyph false (n % 10))) (list_all is_printable acc) (glyph_clean (n % 10) (nat_lt (n % 10) 10) (omega arith)) h in
    clean_either (nat_eq (n / 10) 0) (digit_glyph false (n % 10) ∷ acc) (digits_onto k 10 false (n / 10) (digit_glyph false (n % 10) ∷ acc))
    next (onto_clean k (n / 10) (digit_glyph false (n % 10) ∷ acc) next)

pub clean_decimal : (n : ℕ) → Clean (decimal n)
unfolding digits
clean_decimal n = onto_clean 64 n [] refl

pub clean_two : (n : ℕ) → n < 100 → Clean (two_digits n)
clean_two n h = clean_one (48 + n / 10) ((48 + n % 10) ∷ []) (omega arith) (omega arith) (clean_one (48 + n % 10) [] (omega arith) (omega arith) refl)

-- what a client wrote
hex_printable : (n : ℕ) (b : Bool) → nat_lt (n % 16) 10 ≡ b → is_printable (cond b (48 + n % 16) (55 + n % 16)) ≡ true
hex_printable n true e = grind (arith, nat_tests)
hex_printable n false e = printable (55 + n % 16) (omega arith) (omega arith)

mark_clean : (form : Form) → Clean (mark form)
mark_clean Common = refl
mark_clean Json = refl

octet_clean : (form : Form) (octet : ℕ) (b : Bool) → is_plain octet ≡ b → Clean (cond b (octet ∷ []) (mark form ++ hex_digit (octet / 16) ∷ hex_digit octet ∷ []))
octet_clean form octet true e =
    let p = both (is_printable octet && not (nat_eq octet 34)) (not (nat_eq octet 92)) e in
    let q = both (is_printable octet) (not (nat_eq octet 34)) p.0 in
    and_true (is_printable octet) true q.0 refl
octet_clean form octet false e =
    clean_both (mark form) (hex_digit (octet / 16) ∷ hex_digit octet ∷ []) (mark_clean form)
    (and_true (is_printable (hex_digit (octet / 16))) (list_all is_printable (hex_digit octet ∷ [])) (hex_printable (octet / 16) (nat_lt (octet / 16 % 16) 10) refl)
    (and_true (is_printable (hex_digit octet)) true (hex_printable octet (nat_lt (octet % 16) 10) refl) refl))

texts_clean : (form : Form) (text : List ℕ) → Clean (flat_map (escaped_octet form) text)
texts_clean form [] = refl
texts_clean form (octet ∷ text) =
    clean_both (escaped_octet form octet) (flat_map (escaped_octet form) text) (octet_clean form octet (is_plain octet) refl) (texts_clean form text)

pub clean_escaped : (form : Form) (text : List ℕ) → Clean (escaped form text)
unfolding escaped
clean_escaped form text = texts_clean form (take 8192 text)
