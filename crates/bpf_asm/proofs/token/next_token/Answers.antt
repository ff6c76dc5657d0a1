use Rattle.std.proofs.Common.{sym, ◌∙◌, refl, ap, ◌≡◌, ◌∷◌, List, ℕ, take, false, nat_eq, arith}
use Rattle.std.proofs.lemmas.Bool.Decides.{nat_tests}
use Rattle.bpf_asm.specs.Token.{tokens}
use Rattle.bpf_asm.proofs.TokenLemmas.{blank_line, from_text, comment_first, mark_first}
use Rattle.bpf_asm.proofs.token.next_token.Goals as goal

pub returns-in_default : goal.returns-in_default
returns-in_default c = blank_line c.args.line.now (sym c.text_in.ensures ∙ c.in_default.is)

pub returns-then-first-eq59 : goal.returns-then-first-eq59
returns-then-first-eq59 c =
    let s = from_text c.args.line.now _ c.in-Some.start (sym c.text_in.ensures ∙ c.in-Some.is) refl in
    sym s.0 ∙ comment_first _ _ _ c.in-Some-split_first.ensures.cases.0 c.if-first-eq59.true

pub returns-then-is_word_octet_of : goal.returns-then-is_word_octet_of
returns-then-is_word_octet_of c =
    let s = from_text c.args.line.now _ c.in-Some.start (sym c.text_in.ensures ∙ c.in-Some.is) refl in
    sym s.0 ∙ c.split_word.ensures

pub returns : goal.returns
returns c =
    let s = from_text c.args.line.now _ c.in-Some.start (sym c.text_in.ensures ∙ c.in-Some.is) refl in
    let h = c.in-Some-split_first.ensures.cases.0 in
    let other : nat_eq c.in-Some-split_first.first.now 59 ≡ false = grind (arith, nat_tests) in
    sym s.0 ∙ mark_first _ _ _ h s.1 (sym c.if-is_word_octet_of.ensures) other ∙ sym (ap (λ (x : List ℕ). take 1 x ∷ tokens c.in-Some-split_first.rest.now) h)
