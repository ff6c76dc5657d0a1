-- The tokens of a line are its octets without blanks, up to the comment.
use Rattle.std.proofs.Common.{◌≡◌, ℕ, List, [], ◌∷◌, ◌++◌, Bool, true, false, cond, ◌&&◌, ◌||◌, not, nat_eq, refl, ap, sym, ◌∙◌, arith, append_assoc}
use Rattle.std.proofs.lemmas.Bool.Decides.{nat_tests}
use Rattle.std.proofs.lemmas.List.{append-nil}
use Rattle.std.specs.List.{concat, filter, list_all}
use Rattle.bpf_asm.specs.Token.{is_word_octet, begins_number, goes_on, is_blank, ended, sign_token, tokens_after, tokens, is_text, begins_no_comment}
use Rattle.bpf_asm.proofs.Decimals.{both}

concat_append : (xs ys : List (List ℕ)) → concat (xs ++ ys) ≡ concat xs ++ concat ys
concat_append [] ys = refl
concat_append (x ∷ xs) ys = ap (λ (z : List ℕ). x ++ z) (concat_append xs ys) ∙ sym (append_assoc x (concat xs) (concat ys))

concat_ended : (w : List ℕ) → concat (ended w) ≡ w
concat_ended [] = refl
concat_ended (c ∷ cs) = ap (λ (x : List ℕ). c ∷ x) (append-nil cs)

same_number : (x y : ℕ) → nat_eq x y ≡ true → x ≡ y
same_number x y e = grind (arith, nat_tests)

-- an octet of some word
abbrev may_go : ℕ → Bool
may_go c = is_word_octet c || nat_eq c 46

may_by : (a b d : Bool) → (a || (b && d)) ≡ true → (a || b) ≡ true
may_by true b d h = refl
may_by false true d h = refl
may_by false false d h = absurd (cc)

apart_with : (c k : ℕ) (b : Bool) → nat_eq c k ≡ b → may_go c ≡ true → may_go k ≡ false → b ≡ false
apart_with c k true e p q = absurd (let f : may_go c ≡ may_go k = ap may_go (same_number c k e) in cc)
apart_with c k false e p q = refl

word_text : (w : List ℕ) (c : ℕ) → goes_on w c ≡ true → is_text c ≡ true
word_text w c h =
    let may = may_by (is_word_octet c) (nat_eq c 46) (begins_number w) h in
    let space = apart_with c 32 (nat_eq c 32) refl may refl in
    let tab = apart_with c 9 (nat_eq c 9) refl may refl in
    ap (λ (b : Bool). not (b || nat_eq c 9)) space ∙ ap not tab

marked : (b : Bool) (c : ℕ) (r : List ℕ) → concat (cond b [] ((c ∷ []) ∷ [])) ++ r ≡ cond (not b) (c ∷ r) r
marked true c r = refl
marked false c r = refl

-- one more octet: of a word, the start of a comment, or neither
stepped : (w : List ℕ) (c : ℕ) (cs : List ℕ) (word comment : Bool) → goes_on w c ≡ word → nat_eq c 59 ≡ comment → not comment ≡ true
    → concat (tokens_after (w ++ c ∷ []) cs) ≡ (w ++ c ∷ []) ++ filter is_text cs → concat (tokens_after [] cs) ≡ filter is_text cs
    → concat (cond word (tokens_after (w ++ c ∷ []) cs) (cond comment (ended w) ((ended w ++ sign_token c) ++ tokens_after [] cs))) ≡ w ++ filter is_text (c ∷ cs)
stepped w c cs true comment is semi free on rest =
    on ∙ append_assoc w (c ∷ []) (filter is_text cs) ∙ ap (λ (b : Bool). w ++ cond b (c ∷ filter is_text cs) (filter is_text cs)) (sym (word_text w c is))
stepped w c cs false true is semi free on rest = absurd (cc)
stepped w c cs false false is semi free on rest =
    concat_append (ended w ++ sign_token c) (tokens_after [] cs)
    ∙ ap (λ (x : List ℕ). x ++ concat (tokens_after [] cs)) (concat_append (ended w) (sign_token c))
    ∙ append_assoc (concat (ended w)) (concat (sign_token c)) (concat (tokens_after [] cs))
    ∙ ap (λ (x : List ℕ). x ++ (concat (sign_token c) ++ concat (tokens_after [] cs))) (concat_ended w)
    ∙ ap (λ (x : List ℕ). w ++ (concat (sign_token c) ++ x)) rest
    ∙ ap (λ (x : List ℕ). w ++ x) (marked (is_blank c) c (filter is_text cs))

kept : (w line : List ℕ) → list_all begins_no_comment line ≡ true → concat (tokens_after w line) ≡ w ++ filter is_text line
kept w [] h = concat_ended w ∙ sym (append-nil w)
kept w (c ∷ cs) h =
    let p = both (begins_no_comment c) (list_all begins_no_comment cs) h in
    stepped w c cs (goes_on w c) (nat_eq c 59) refl refl p.0 (kept (w ++ c ∷ []) cs p.1) (kept [] cs p.1)

pub tokens_kept : (line : List ℕ) → list_all begins_no_comment line ≡ true → concat (tokens line) ≡ filter is_text line
tokens_kept line h = kept [] line h

cut : (w front rest : List ℕ) → tokens_after w (front ++ 59 ∷ rest) ≡ tokens_after w front
cut w [] rest = refl
cut w (c ∷ cs) rest =
    let word = cut (w ++ c ∷ []) cs rest in
    let next = cut [] cs rest in
    λ i. cond (goes_on w c) (word i) (cond (nat_eq c 59) (ended w) ((ended w ++ sign_token c) ++ next i))

pub comment_cut : (front rest : List ℕ) → tokens (front ++ 59 ∷ rest) ≡ tokens front
comment_cut front rest = cut [] front rest
