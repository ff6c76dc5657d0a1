-- One draft and its labels.
use Rattle.std.proofs.Common.{◌≡◌, ℕ, zero, suc, ◌+◌, ◌<◌, ◌^◌, List, [], ◌∷◌, ◌++◌, length, Option, Some, refl, ap, sym, ◌∙◌, subst, ◌⊎◌, inl, inr, arith}
use Rattle.std.specs.Prelude.{slice_get}
use Rattle.bpf_check.specs.declared.insn.Insn.{Insn}
use Rattle.bpf_check.specs.declared.operation.Operation.{Operation}
use Rattle.bpf_check.specs.declared.operation.Operation.TheVariants.{Jump, Branch}
use Rattle.bpf_asm.specs.declared.fault.AsmFault.{AsmFault}
use Rattle.bpf_asm.specs.Assembly.{IsBranch}
use Rattle.bpf_asm.specs.Drafts.{Draft, Resolves, IsResolved, labels_kept, FineLabel, WrongLabel, Unresolved}

pub jump_unresolved : (look : List ℕ → Option ℕ) (place : ℕ) (d : Draft) (fault : AsmFault) → d.operation ≡ Jump → WrongLabel look place d.operation d.first d.line fault → Unresolved look place d fault
jump_unresolved look place d fault jump wrong = record {
  j = 0;
  one_of_two = omega arith;
  label = d.first;
  named = ap (λ (o : Operation). slice_get (labels_kept d o) 0) jump;
  wrong = wrong;
  before = λ i l below e. absurd (omega arith);
}

pub jump_resolved : (look : List ℕ → Option ℕ) (place : ℕ) (d : Draft) (i : Insn) → d.operation ≡ Jump → i.code ≡ d.code → look d.first ≡ Some (place + 1 + i.k) → i.jt ≡ 0 → i.jf ≡ 0 → IsResolved look place d i
jump_resolved look place d i jump code found jt jf = (code, subst (Resolves look place i d) (sym jump) (found, jt, jf))

branch_labels : (d : Draft) (o : Operation) → IsBranch o → labels_kept d o ≡ d.first ∷ d.second ∷ []
branch_labels d (Branch test side) b = refl
branch_labels d _ b = absurd b

pub branch_first : (look : List ℕ → Option ℕ) (place : ℕ) (d : Draft) (fault : AsmFault) → IsBranch d.operation → WrongLabel look place d.operation d.first d.line fault → Unresolved look place d fault
branch_first look place d fault b wrong = record {
  j = 0;
  one_of_two = omega arith;
  label = d.first;
  named = ap (λ (ls : List (List ℕ)). slice_get ls 0) (branch_labels d d.operation b);
  wrong = wrong;
  before = λ i l below e. absurd (omega arith);
}

pub branch_second : (look : List ℕ → Option ℕ) (place distance : ℕ) (d : Draft) (fault : AsmFault) → IsBranch d.operation → look d.first ≡ Some (place + 1 + distance) → distance < 256 → WrongLabel look place d.operation d.second d.line fault → Unresolved look place d fault
branch_second look place distance d fault b first small wrong = record {
  j = 1;
  one_of_two = omega arith;
  label = d.second;
  named = ap (λ (ls : List (List ℕ)). slice_get ls 1) labels;
  wrong = wrong;
  before = earlier;
}
  where
    labels : labels_kept d d.operation ≡ d.first ∷ d.second ∷ []
    labels = branch_labels d d.operation b

    earlier : (i : ℕ) (l : List ℕ) → i < 1 → slice_get (labels_kept d d.operation) i ≡ Some l → FineLabel look place d.operation l
    earlier zero l below e =
        let same : Some d.first ≡ Some l = sym (ap (λ (ls : List (List ℕ)). slice_get ls 0) labels) ∙ e in
        let one : d.first ≡ l = cc in
        (distance, ap look (sym one) ∙ first, λ _. small)
    earlier (suc i) l below e = absurd (omega arith)

branch_resolves : (look : List ℕ → Option ℕ) (place : ℕ) (d : Draft) (i : Insn) (o : Operation) → IsBranch o → i.k ≡ d.k → look d.first ≡ Some (place + 1 + i.jt) → look d.second ≡ Some (place + 1 + i.jf) → i.jt < 2 ^ 8 → i.jf < 2 ^ 8 → Resolves look place i d o
branch_resolves look place d i (Branch test side) b k jt jf t f = (k, jt, jf, t, f)
branch_resolves look place d i _ b k jt jf t f = absurd b

pub branch_resolved : (look : List ℕ → Option ℕ) (place : ℕ) (d : Draft) (i : Insn) → IsBranch d.operation → i.code ≡ d.code → i.k ≡ d.k → look d.first ≡ Some (place + 1 + i.jt) → look d.second ≡ Some (place + 1 + i.jf) → i.jt < 2 ^ 8 → i.jf < 2 ^ 8 → IsResolved look place d i
branch_resolved look place d i b code k jt jf t f = (code, branch_resolves look place d i d.operation b k jt jf t f)

push_cases : {A : Type 0} (p : List A) (new : A) (place : ℕ) (i : A) → slice_get (p ++ new ∷ []) place ≡ Some i → (slice_get p place ≡ Some i) ⊎ ((place ≡ length p) × (new ≡ i))
push_cases [] new zero i e = inr (refl, cc)
push_cases [] new (suc n) i e = absurd (cc)
push_cases (x ∷ p) new zero i e = inl e
push_cases (x ∷ p) new (suc n) i e = elim (push_cases p new n i e) [ inl h ↦ inl h | inr h ↦ inr (ap suc h.0, h.1) ]

pub each_pushed : {A : Type 0} (P : ℕ → A → Type 0) (p : List A) (new : A) → ((q : ℕ) (i : A) → slice_get p q ≡ Some i → P q i) → P (length p) new → (q : ℕ) (i : A) → slice_get (p ++ new ∷ []) q ≡ Some i → P q i
each_pushed P p new each here q i e =
    elim (push_cases p new q i e) [
      | inl h ↦ each q i h
      | inr h ↦ subst (λ (n : ℕ). P n i) (sym h.0) (subst (P (length p)) h.1 here)
    ]
