-- Programs that compare equal are equal lists.
use Rattle.std.proofs.Common.{◌≡◌, ℕ, List, [], ◌∷◌, Bool, true, false, ◌&&◌, refl, sym, subst, arith, rules}
use Rattle.std.specs.Prelude.{IsTrue, ◌↔◌, ◌==◌}
use Rattle.std.proofs.lemmas.Bool.Decides.{nat_tests}
use Rattle.std.specs.Cmp.{IsEquivalence}
use Rattle.std.specs.Cmp.Rules.{comparing}
use lib.Pointwise.{pointwise}
use Rattle.bpf_check.specs.declared.insn.Insn.{Insn}
use Rattle.bpf_check.specs.Insn.{same_insn}

-- both of two tests hold
both : (a b : Bool) → (a && b) ≡ true → (a ≡ true) × (b ≡ true)
both true b e = (refl, e)
both false b e = absurd (cc)

-- numbers that compare equal are equal
same_number : (x y : ℕ) → (x == y) ≡ true → x ≡ y
same_number x y e = grind (arith, nat_tests)

-- instructions that compare equal are equal
same_fields : (x y : Insn) → same_insn x y ≡ true → x ≡ y
same_fields x y e =
    let p = both (x.code == y.code) _ e in
    let q = both (x.jt == y.jt) _ p.1 in
    let r = both (x.jf == y.jf) _ q.1 in
    let code = same_number x.code y.code p.0 in
    let jt = same_number x.jt y.jt q.0 in
    let jf = same_number x.jf y.jf r.0 in
    let k = same_number x.k y.k r.1 in
    λ i. record { code = code i; jt = jt i; jf = jf i; k = k i }

-- lists that compare equal are equal
same_list : (xs ys : List Insn) → pointwise same_insn xs ys ≡ true → xs ≡ ys
same_list [] [] e = refl
same_list [] (y ∷ ys) e = absurd (cc)
same_list (x ∷ xs) [] e = absurd (cc)
same_list (x ∷ xs) (y ∷ ys) e =
    let p = both (same_insn x y) (pointwise same_insn xs ys) e in
    let first = same_fields x y p.0 in
    let rest = same_list xs ys p.1 in
    λ i. first i ∷ rest i

-- a list compares equal to itself
list_itself : (xs ys : List Insn) → xs ≡ ys → pointwise same_insn xs ys ≡ true
list_itself xs ys e =
    let laws : IsEquivalence (pointwise same_insn) = search (comparing, rules) depth 9 in
    subst (λ (zs : List Insn). pointwise same_insn xs zs ≡ true) e (laws.refl xs)

-- two tests, each of which holds if the other does
same_test : (a b : Bool) → (a ≡ true → b ≡ true) → (b ≡ true → a ≡ true) → a ≡ b
same_test true b f g = sym (f refl)
same_test false true f g = g refl
same_test false false f g = refl

-- the law: a test that holds exactly of equal programs is the comparison instruction by instruction
pub same_program : (xs ys : List Insn) (b : Bool) → IsTrue b ↔ (xs ≡ ys) → b ≡ pointwise same_insn xs ys
same_program xs ys b is = same_test b (pointwise same_insn xs ys) (λ yes. list_itself xs ys (is.0 yes)) (λ yes. is.1 (same_list xs ys yes))
