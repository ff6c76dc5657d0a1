-- Splitting off the first token of a line.
use Rattle.std.proofs.Common.{◌≡◌, ℕ, suc, ◌+◌, ◌-◌, ◌<◌, ◌≤◌, List, [], ◌∷◌, ◌++◌, Bool, true, false, cond, ◌&&◌, ◌||◌, not, Some, None, length, take, drop, refl, ap, sym, subst, ◌∙◌, arith, append_assoc, nat_eq, nat_lt, take_all, length-drop}
use Rattle.std.proofs.lemmas.Bool.Decides.{nat_tests}
use Rattle.std.proofs.lemmas.List.{append-nil, drop_all, take-append-drop}
use Rattle.std.specs.List.{list_all, position, position_or_len}
use Rattle.bpf_asm.specs.Token.{is_word_octet, begins_number, goes_on, is_blank, is_text, ended, sign_token, tokens_after, tokens, starts_word}
use Rattle.bpf_asm.specs.Reading.{ends_word}
use Rattle.bpf_asm.proofs.Decimals.{both}

-- the text is at its end, or its next octet fails the test
abbrev pub Stops : (ℕ → Bool) → List ℕ → Type 0
Stops test [] = Unit {0}
Stops test (c ∷ cs) = test c ≡ false

-- the text is at its end, or its next octet doesn't go on with this word
abbrev pub Breaks : List ℕ → List ℕ → Type 0
Breaks w text = Stops (goes_on w) text

any_by : (a b : Bool) → a ≡ true → (a || b) ≡ true
any_by a b h = ap (λ (x : Bool). x || b) h

-- an octet of a word goes on with any word
pub word_goes : (w : List ℕ) (c : ℕ) → is_word_octet c ≡ true → goes_on w c ≡ true
word_goes w c h = any_by (is_word_octet c) (nat_eq c 46 && begins_number w) h

less_by : (a b d : Bool) → (a || (b && d)) ≡ false → (a || (b && false)) ≡ false
less_by true b d h = h
less_by false true d h = refl
less_by false false d h = refl

-- an octet that doesn't go on with a word doesn't begin one
none_begins : (w : List ℕ) (c : ℕ) → goes_on w c ≡ false → goes_on [] c ≡ false
none_begins w c h = less_by (is_word_octet c) (nat_eq c 46) (begins_number w) h

pub word_run : (w v text : List ℕ) → list_all is_word_octet v ≡ true → tokens_after w (v ++ text) ≡ tokens_after (w ++ v) text
word_run w [] text h = ap (λ (x : List ℕ). tokens_after x text) (sym (append-nil w))
word_run w (c ∷ v) text h =
    let p = both (is_word_octet c) (list_all is_word_octet v) h in
    ap (λ (b : Bool). cond b (tokens_after (w ++ c ∷ []) (v ++ text)) (cond (nat_eq c 59) (ended w) ((ended w ++ sign_token c) ++ tokens_after [] (v ++ text)))) (word_goes w c p.0)
    ∙ word_run (w ++ c ∷ []) v text p.1
    ∙ ap (λ (x : List ℕ). tokens_after x text) (append_assoc w (c ∷ []) v)

-- the octets of v go on with a word that begins with c
pub run_on : (c : ℕ) (u v text : List ℕ) → list_all (goes_on (c ∷ [])) v ≡ true → tokens_after (c ∷ u) (v ++ text) ≡ tokens_after (c ∷ (u ++ v)) text
run_on c u [] text h = ap (λ (x : List ℕ). tokens_after (c ∷ x) text) (sym (append-nil u))
run_on c u (d ∷ v) text h =
    let p = both (goes_on (c ∷ []) d) (list_all (goes_on (c ∷ [])) v) h in
    let w = c ∷ u in
    ap (λ (b : Bool). cond b (tokens_after (w ++ d ∷ []) (v ++ text)) (cond (nat_eq d 59) (ended w) ((ended w ++ sign_token d) ++ tokens_after [] (v ++ text)))) p.0
    ∙ run_on c (u ++ d ∷ []) v text p.1
    ∙ ap (λ (x : List ℕ). tokens_after (c ∷ x) text) (append_assoc u (d ∷ []) v)

parted : (b : Bool) (e m t : List (List ℕ)) → cond b e ((e ++ m) ++ t) ≡ e ++ cond b [] (m ++ t)
parted true e m t = sym (append-nil e)
parted false e m t = append_assoc e m t

pub after_break : (w text : List ℕ) → Breaks w text → tokens_after w text ≡ ended w ++ tokens_after [] text
after_break w [] h = sym (append-nil (ended w))
after_break w (c ∷ cs) h =
    let rest = tokens_after [] cs in
    let left = ap (λ (b : Bool). cond b (tokens_after (w ++ c ∷ []) cs) (cond (nat_eq c 59) (ended w) ((ended w ++ sign_token c) ++ rest))) h in
    let right = ap (λ (b : Bool). cond b (tokens_after (c ∷ []) cs) (cond (nat_eq c 59) [] (sign_token c ++ rest))) (none_begins w c h) in
    left ∙ parted (nat_eq c 59) (ended w) (sign_token c) rest ∙ ap (λ (x : List (List ℕ)). ended w ++ x) (sym right)

-- ---- the index of the first octet that passes

placed_by : (t : Bool) (a b n : ℕ) → nat_lt a b ≡ t → cond t (Some a) None ≡ Some n → (a ≡ n) × (a < b)
placed_by true a b n e h = (cc, grind (arith, nat_tests))
placed_by false a b n e h = absurd (cc)

unplaced_by : (t : Bool) (a b : ℕ) → nat_lt a b ≡ t → cond t (Some a) None ≡ None → b ≤ a
unplaced_by true a b e h = absurd (cc)
unplaced_by false a b e h = grind (arith, nat_tests)

placed : (p : ℕ → Bool) (xs : List ℕ) (n : ℕ) → position p xs ≡ Some n → (position_or_len p xs ≡ n) × (position_or_len p xs < length xs)
placed p xs n h = placed_by (nat_lt (position_or_len p xs) (length xs)) (position_or_len p xs) (length xs) n refl h

unplaced : (p : ℕ → Bool) (xs : List ℕ) → position p xs ≡ None → length xs ≤ position_or_len p xs
unplaced p xs h = unplaced_by (nat_lt (position_or_len p xs) (length xs)) (position_or_len p xs) (length xs) refl h

one_more : (n : ℕ) → 1 + n ≡ suc n
one_more n = omega arith

-- a slice from n to the end is the list without its first n elements
tail_is : (xs : List ℕ) (n : ℕ) → take (length xs - n) (drop n xs) ≡ drop n xs
tail_is xs n = take_all (length xs - n) (drop n xs) (omega (arith, length-drop n xs))

-- ---- blanks in front

same_number : (x y : ℕ) → nat_eq x y ≡ true → x ≡ y
same_number x y e = grind (arith, nat_tests)

blank_by : (a b : Bool) (c : ℕ) (cs : List ℕ) → nat_eq c 32 ≡ a → nat_eq c 9 ≡ b → (a || b) ≡ true → tokens (c ∷ cs) ≡ tokens cs
blank_by true b c cs e f h = ap (λ (x : ℕ). tokens (x ∷ cs)) (same_number c 32 e)
blank_by false true c cs e f h = ap (λ (x : ℕ). tokens (x ∷ cs)) (same_number c 9 f)
blank_by false false c cs e f h = absurd (cc)

blank_first : (c : ℕ) (cs : List ℕ) → is_blank c ≡ true → tokens (c ∷ cs) ≡ tokens cs
blank_first c cs h = blank_by (nat_eq c 32) (nat_eq c 9) c cs refl refl h

begun_step : (c : ℕ) (cs : List ℕ) (b : Bool) → is_blank c ≡ b → tokens (drop (position_or_len is_text cs) cs) ≡ tokens cs
    → tokens (drop (cond (not (not b)) (1 + position_or_len is_text cs) 0) (c ∷ cs)) ≡ tokens (c ∷ cs)
begun_step c cs true e rest = ap (λ (k : ℕ). tokens (drop k (c ∷ cs))) (one_more (position_or_len is_text cs)) ∙ rest ∙ sym (blank_first c cs e)
begun_step c cs false e rest = refl

begun : (line : List ℕ) → tokens (drop (position_or_len is_text line) line) ≡ tokens line
begun [] = refl
begun (c ∷ cs) = begun_step c cs (is_blank c) refl (begun cs)

-- begins with an octet that is not a blank
abbrev pub BeginsText : List ℕ → Type 0
BeginsText [] = ⊥
BeginsText (c ∷ cs) = is_blank c ≡ false

begins_step : (c : ℕ) (cs : List ℕ) (b : Bool) → is_blank c ≡ b → (position_or_len is_text cs < length cs → BeginsText (drop (position_or_len is_text cs) cs))
    → cond (not (not b)) (1 + position_or_len is_text cs) 0 < length (c ∷ cs) → BeginsText (drop (cond (not (not b)) (1 + position_or_len is_text cs) 0) (c ∷ cs))
begins_step c cs true e rest h = rw (one_more (position_or_len is_text cs)) (rest (omega (arith, h)))
begins_step c cs false e rest h = e

begins : (line : List ℕ) → position_or_len is_text line < length line → BeginsText (drop (position_or_len is_text line) line)
begins [] h = absurd (omega arith)
begins (c ∷ cs) h = begins_step c cs (is_blank c) refl (begins cs) h

pub blank_line : (line : List ℕ) → position is_text line ≡ None → tokens line ≡ []
blank_line line h = sym (begun line) ∙ ap tokens (drop_all (position_or_len is_text line) line (unplaced is_text line h))

-- the text from the first octet that is not a blank on
pub from_text : (line text : List ℕ) (start : ℕ) → position is_text line ≡ Some start → text ≡ take (length line - start) (drop start line) → (tokens text ≡ tokens line) × BeginsText text
from_text line text start h e =
    let s = placed is_text line start h in
    let same : drop (position_or_len is_text line) line ≡ text = ap (λ (k : ℕ). drop k line) s.0 ∙ sym (e ∙ tail_is line start) in
    (rw same at (begun line), subst BeginsText same (begins line s.1))

-- ---- the first token

pub comment_first : (text cs : List ℕ) (c : ℕ) → text ≡ c ∷ cs → c ≡ 59 → tokens text ≡ []
comment_first text cs c e h = ap tokens e ∙ ap (λ (x : ℕ). tokens (x ∷ cs)) h

and_false : (b : Bool) → (b && false) ≡ false
and_false true = refl
and_false false = refl

no_begin : (c : ℕ) → is_word_octet c ≡ false → goes_on [] c ≡ false
no_begin c h = ap (λ (a : Bool). a || (nat_eq c 46 && false)) h ∙ and_false (nat_eq c 46)

mark_by : (c : ℕ) (cs : List ℕ) → is_blank c ≡ false → is_word_octet c ≡ false → nat_eq c 59 ≡ false → tokens (c ∷ cs) ≡ (c ∷ []) ∷ tokens cs
mark_by c cs text word more =
    ap (λ (b : Bool). cond b (tokens_after (c ∷ []) cs) (cond (nat_eq c 59) [] (sign_token c ++ tokens cs))) (no_begin c word)
    ∙ ap (λ (b : Bool). cond b [] (sign_token c ++ tokens cs)) more
    ∙ ap (λ (b : Bool). cond b [] ((c ∷ []) ∷ []) ++ tokens cs) text

pub mark_first : (text cs : List ℕ) (c : ℕ) → text ≡ c ∷ cs → BeginsText text → is_word_octet c ≡ false → nat_eq c 59 ≡ false → tokens text ≡ (c ∷ []) ∷ tokens cs
mark_first text cs c e begins word more = ap tokens e ∙ mark_by c cs (subst BeginsText e begins) word more

-- the number of octets in front that pass the test
abbrev passing : (ℕ → Bool) → List ℕ → ℕ
passing test text = position_or_len (λ (c : ℕ). not (test c)) text

run_step : (test : ℕ → Bool) (c : ℕ) (cs : List ℕ) (b : Bool) → test c ≡ b → list_all test (take (passing test cs) cs) ≡ true
    → list_all test (take (cond (not (not b)) (1 + passing test cs) 0) (c ∷ cs)) ≡ true
run_step test c cs true e rest =
    ap (λ (k : ℕ). list_all test (take k (c ∷ cs))) (one_more (passing test cs))
    ∙ ap (λ (b : Bool). b && list_all test (take (passing test cs) cs)) e ∙ rest
run_step test c cs false e rest = refl

run : (test : ℕ → Bool) (text : List ℕ) → list_all test (take (passing test text) text) ≡ true
run test [] = refl
run test (c ∷ cs) = run_step test c cs (test c) refl (run test cs)

stop_step : (test : ℕ → Bool) (c : ℕ) (cs : List ℕ) (b : Bool) → test c ≡ b → Stops test (drop (passing test cs) cs) → Stops test (drop (cond (not (not b)) (1 + passing test cs) 0) (c ∷ cs))
stop_step test c cs true e rest = rw (one_more (passing test cs)) rest
stop_step test c cs false e rest = e

stop : (test : ℕ → Bool) (text : List ℕ) → Stops test (drop (passing test text) text)
stop test [] = tt
stop test (c ∷ cs) = stop_step test c cs (test c) refl (stop test cs)

-- a word and the octets after it, when n octets after its first one go on with it
run_first : (c : ℕ) (cs : List ℕ) (n : ℕ) → is_word_octet c ≡ true → passing (goes_on (c ∷ [])) cs ≡ n → tokens (c ∷ cs) ≡ (c ∷ take n cs) ∷ tokens (drop n cs)
run_first c cs n h e =
    let test = goes_on (c ∷ []) in
    let all : list_all test (take n cs) ≡ true = rw e at (run test cs) in
    let end : Stops test (drop n cs) = rw e at (stop test cs) in
    ap (λ (b : Bool). cond b (tokens_after (c ∷ []) cs) (cond (nat_eq c 59) [] (sign_token c ++ tokens cs))) (word_goes [] c h)
    ∙ ap (tokens_after (c ∷ [])) (sym (take-append-drop n cs))
    ∙ run_on c [] (take n cs) (drop n cs) all
    ∙ after_break (c ∷ take n cs) (drop n cs) end

-- the first octet is one of those that go on with the word
first_goes : (c : ℕ) (cs : List ℕ) → is_word_octet c ≡ true → position_or_len (ends_word (c ∷ cs)) (c ∷ cs) ≡ suc (passing (goes_on (c ∷ [])) cs)
first_goes c cs h =
    ap (λ (b : Bool). cond (not (not b)) (1 + passing (goes_on (c ∷ [])) cs) 0) (word_goes (c ∷ cs) c h) ∙ one_more (passing (goes_on (c ∷ [])) cs)

cut_at : (c : ℕ) (cs : List ℕ) (end : ℕ) → is_word_octet c ≡ true → position_or_len (ends_word (c ∷ cs)) (c ∷ cs) ≡ end → tokens (c ∷ cs) ≡ take end (c ∷ cs) ∷ tokens (drop end (c ∷ cs))
cut_at c cs end h e = rw (← e, first_goes c cs h) (run_first c cs (passing (goes_on (c ∷ [])) cs) h refl)

-- a word and the rest after it
pub word_cut : (text more : List ℕ) (end : ℕ) → starts_word text ≡ true → position (ends_word text) text ≡ Some end → more ≡ take (length text - end) (drop end text) → tokens text ≡ take end text ∷ tokens more
word_cut [] more end h e f = absurd (cc)
word_cut (c ∷ cs) more end h e f =
    let s = placed (ends_word (c ∷ cs)) (c ∷ cs) end e in
    cut_at c cs end h s.0 ∙ ap (λ (x : List ℕ). take end (c ∷ cs) ∷ tokens x) (sym (f ∙ tail_is (c ∷ cs) end))

pub word_alone : (text : List ℕ) → starts_word text ≡ true → position (ends_word text) text ≡ None → tokens text ≡ text ∷ []
word_alone [] h e = absurd (cc)
word_alone (c ∷ cs) h e =
    let text = c ∷ cs in
    let n = position_or_len (ends_word text) text in
    let le = unplaced (ends_word text) text e in
    cut_at c cs n h refl
    ∙ ap (λ (x : List ℕ). x ∷ tokens (drop n text)) (take_all n text le)
    ∙ ap (λ (x : List ℕ). text ∷ tokens x) (drop_all n text le)
