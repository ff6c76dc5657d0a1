-- An address in dotted form is one token, and a number with its value.
use Rattle.std.proofs.Common.{◌≡◌, ℕ, ◌^◌, ◌<◌, List, [], ◌∷◌, ◌++◌, length, Bool, true, false, cond, ◌||◌, nat_eq, decimal, refl, ap, sym, subst, ◌∙◌, arith, append-nil, append_assoc}
use Rattle.std.proofs.lemmas.Fmt.{decimal_nonempty}
use Rattle.std.specs.Prelude.{codes}
use Rattle.std.specs.Char.{is_ascii_digit}
use Rattle.std.specs.List.{list_all, list_any}
use Rattle.bpf_asm.specs.declared.number.Notation.TheVariants.{Address}
use Rattle.bpf_asm.specs.Token.{is_word_octet, goes_on, sign_token, tokens_after, tokens}
use Rattle.bpf_asm.specs.Number.{IsAddress, notation, IsNumber}
use Rattle.bpf_asm.proofs.Decimals.{both, and_true, digits_words, decimal_digits, decimal_words}
use Rattle.bpf_asm.proofs.TokenLemmas.{word_goes, run_on}

or_right : (a b : Bool) → b ≡ true → (a || b) ≡ true
or_right true b h = refl
or_right false b h = h

any_found : (test : ℕ → Bool) (xs ys : List ℕ) (c : ℕ) → test c ≡ true → list_any test (xs ++ c ∷ ys) ≡ true
any_found test [] ys c h = ap (λ (b : Bool). b || list_any test ys) h
any_found test (x ∷ xs) ys c h = or_right (test x) (list_any test (xs ++ c ∷ ys)) (any_found test xs ys c h)

all_append : (test : ℕ → Bool) (xs ys : List ℕ) → list_all test xs ≡ true → list_all test ys ≡ true → list_all test (xs ++ ys) ≡ true
all_append test [] ys h k = k
all_append test (x ∷ xs) ys h k =
    let p = both (test x) (list_all test xs) h in
    and_true (test x) (list_all test (xs ++ ys)) p.0 (all_append test xs ys p.1 k)

dots : (a b c d : ℕ) → decimal a ++ codes "." ++ decimal b ++ codes "." ++ decimal c ++ codes "." ++ decimal d ≡ decimal a ++ 46 ∷ (decimal b ++ 46 ∷ (decimal c ++ 46 ∷ decimal d))
dots a b c d = simp append_assoc

written : (word : List ℕ) (n : ℕ) (h : IsAddress word n) → word ≡ decimal h.a ++ 46 ∷ (decimal h.b ++ 46 ∷ (decimal h.c ++ 46 ∷ decimal h.d))
written word n h = h.written ∙ dots h.a h.b h.c h.d

-- ---- a number

in_dotted : (word : List ℕ) (n : ℕ) → IsAddress word n → notation word ≡ Address
in_dotted word n h =
    let rest = decimal h.b ++ 46 ∷ (decimal h.c ++ 46 ∷ decimal h.d) in
    ap notation (written word n h) ∙ rw (any_found (λ (c : ℕ). nat_eq c 46) (decimal h.a) rest 46 refl) refl

pub address_number : (word : List ℕ) (n : ℕ) → IsAddress word n → IsNumber word n
unfolding IsNumber
address_number word n h =
    let small : n < 2 ^ 32 = omega (arith, h.fit.0, h.fit.1, h.fit.2, h.fit.3, h.value) in
    rw (in_dotted word n h) (h, small)

-- ---- a token

words_go : (w v : List ℕ) → list_all is_word_octet v ≡ true → list_all (goes_on w) v ≡ true
words_go w [] h = refl
words_go w (c ∷ cs) h =
    let p = both (is_word_octet c) (list_all is_word_octet cs) h in
    and_true (goes_on w c) (list_all (goes_on w) cs) (word_goes w c p.0) (words_go w cs p.1)

number_goes : (w : List ℕ) (n : ℕ) → n < 256 → list_all (goes_on w) (decimal n) ≡ true
number_goes w n h = words_go w (decimal n) (decimal_words n (omega arith))

-- a dot and a number go on with a word that begins with a digit
dotted_goes : (c n : ℕ) (more : List ℕ) → is_ascii_digit c ≡ true → n < 256 → list_all (goes_on (c ∷ [])) more ≡ true → list_all (goes_on (c ∷ [])) (46 ∷ (decimal n ++ more)) ≡ true
dotted_goes c n more digit h rest =
    and_true (goes_on (c ∷ []) 46) (list_all (goes_on (c ∷ [])) (decimal n ++ more)) digit (all_append (goes_on (c ∷ [])) (decimal n) more (number_goes (c ∷ []) n h) rest)

one_token : (ds tail : List ℕ) → 0 < length ds → list_all is_ascii_digit ds ≡ true → ((c : ℕ) → is_ascii_digit c ≡ true → list_all (goes_on (c ∷ [])) tail ≡ true) → tokens (ds ++ tail) ≡ (ds ++ tail) ∷ []
one_token [] tail some all rest = absurd (omega (arith, some))
one_token (c ∷ cs) tail some all rest =
    let p = both (is_ascii_digit c) (list_all is_ascii_digit cs) all in
    let words = both (is_word_octet c) (list_all is_word_octet cs) (digits_words (c ∷ cs) all) in
    let v = cs ++ tail in
    let goes = all_append (goes_on (c ∷ [])) cs tail (words_go (c ∷ []) cs words.1) (rest c p.0) in
    ap (λ (b : Bool). cond b (tokens_after (c ∷ []) v) (cond (nat_eq c 59) [] (sign_token c ++ tokens v))) (word_goes [] c words.0)
    ∙ ap (tokens_after (c ∷ [])) (sym (append-nil v))
    ∙ run_on c [] v [] goes

pub address_token : (word : List ℕ) (n : ℕ) → IsAddress word n → tokens word ≡ word ∷ []
address_token word n h =
    let tail = 46 ∷ (decimal h.b ++ 46 ∷ (decimal h.c ++ 46 ∷ decimal h.d)) in
    let a = h.fit.0 in
    let wide : h.a < 2 ^ 64 = omega arith in
    let last : (c : ℕ) → is_ascii_digit c ≡ true → list_all (goes_on (c ∷ [])) (46 ∷ decimal h.d) ≡ true =
    λ c digit. and_true (goes_on (c ∷ []) 46) (list_all (goes_on (c ∷ [])) (decimal h.d)) digit (number_goes (c ∷ []) h.d h.fit.3) in
    let goes : (c : ℕ) → is_ascii_digit c ≡ true → list_all (goes_on (c ∷ [])) tail ≡ true =
    λ c digit. dotted_goes c h.b _ digit h.fit.1 (dotted_goes c h.c _ digit h.fit.2 (last c digit)) in
    subst (λ (w : List ℕ). tokens w ≡ w ∷ []) (sym (written word n h)) (one_token (decimal h.a) tail (decimal_nonempty h.a wide) (decimal_digits h.a wide) goes)
