-- A program that was accepted before is accepted, with the same chains.
use Rattle.std.proofs.Common.{◌≡◌, ℕ, ◌+◌, ◌-◌, ◌<◌, ◌≤◌, List, [], ◌∷◌, ◌++◌, length, drop, Option, Some, None, Bool, true, false, cond, ◌&&◌, nat_eq, refl, sym, ap, ◌∙◌, subst, arith}
use Rattle.std.specs.Prelude.{slice_get, IsSomeAnd, ◌↔◌}
use Rattle.bpf_check.specs.declared.insn.Insn.{Insn}
use Rattle.bpf_check.specs.declared.operation.Operand.TheVariants.{Constant}
use Rattle.bpf_check.specs.declared.operation.Arithmetic.TheVariants.{Divide, Modulo}
use Rattle.bpf_check.specs.declared.operation.Operation.{Operation}
use Rattle.bpf_check.specs.declared.operation.Operation.TheVariants.{LoadScratch, IndexScratch, StoreAccumulator, StoreIndex, Compute, Jump, Branch}
use Rattle.bpf_check.specs.Operation.{table, in_rows, operation_of}
use Rattle.bpf_check.specs.Accepted.{most_insns, FieldsFit, IsFine, IsReturn, IsAccepted}
use Rattle.bpf_run.specs.declared.machine.Machine.{Machine}
use Rattle.bpf_run.specs.declared.machine.Step.{Step}
use Rattle.bpf_run.specs.declared.machine.Step.TheVariants.{End}
use Rattle.bpf_run.specs.Machine.{row_if}
use Rattle.bpf_run.specs.Chain.{Point, effect_if, leads, Follows, IsChain, Gives}
use Rattle.bpf_run.specs.Earlier.{earlier_table, earlier_operation_of, FieldsFitted, WasAccepted, led_to, led, WasChain, Gave}

-- appended rows don't change what is found
kept_if : {A : Type 0} (b : Bool) (x y : A) (o q : Option A) → (o ≡ Some y → q ≡ Some y) → cond b (Some x) o ≡ Some y → cond b (Some x) q ≡ Some y
kept_if true x y o q more e = e
kept_if false x y o q more e = more e

kept_rows : (rows behind : List (ℕ × Operation)) (code : ℕ) (o : Operation) → in_rows rows code ≡ Some o → in_rows (rows ++ behind) code ≡ Some o
kept_rows [] behind code o e = absurd (cc)
kept_rows (row ∷ rows) behind code o e = kept_if (nat_eq row.0 code) row.1 o (in_rows rows code) (in_rows (rows ++ behind) code) (kept_rows rows behind code o) e

is_same : (code : ℕ) (o : Operation) → earlier_operation_of code ≡ Some o → operation_of code ≡ Some o
unfolding earlier_operation_of operation_of
is_same code o e = kept_rows earlier_table (drop 45 table) code o e

-- the earlier codes have no remainder
abbrev divides_anew : Operation → Bool
divides_anew (Compute Modulo Constant) = true
divides_anew o = false

abbrev none_anew : List (ℕ × Operation) → Bool
none_anew [] = true
none_anew (row ∷ rows) = cond (divides_anew row.1) false (none_anew rows)

old_if : (b d : Bool) (x o : Operation) (q : Option Operation) (r : Bool) → d ≡ divides_anew x → (r ≡ true → q ≡ Some o → divides_anew o ≡ false) → cond d false r ≡ true → cond b (Some x) q ≡ Some o → divides_anew o ≡ false
old_if b true x o q r is more none e = absurd (cc)
old_if true false x o q r is more none e = (let same : x ≡ o = cc in ap divides_anew (sym same) ∙ sym is)
old_if false false x o q r is more none e = more none e

old_rows : (rows : List (ℕ × Operation)) (code : ℕ) (o : Operation) → none_anew rows ≡ true → in_rows rows code ≡ Some o → divides_anew o ≡ false
old_rows [] code o none e = absurd (cc)
old_rows (row ∷ rows) code o none e = old_if (nat_eq row.0 code) (divides_anew row.1) row.1 o (in_rows rows code) (none_anew rows) refl (old_rows rows code o) none e

is_old : (code : ℕ) (o : Operation) → earlier_operation_of code ≡ Some o → divides_anew o ≡ false
unfolding earlier_operation_of
is_old code o e = old_rows earlier_table code o refl e

still_fits : (count place : ℕ) (i : Insn) (o : Operation) → divides_anew o ≡ false → FieldsFitted count place i o → FieldsFit count place i o
still_fits count place i LoadScratch old fits = fits
still_fits count place i IndexScratch old fits = fits
still_fits count place i StoreAccumulator old fits = fits
still_fits count place i StoreIndex old fits = fits
still_fits count place i (Compute Divide Constant) old fits = fits
still_fits count place i (Compute Modulo Constant) old fits = absurd (cc)
still_fits count place i Jump old fits = fits
still_fits count place i (Branch test side) old fits = fits
still_fits count place i o old fits = tt

-- a fact about the earlier operation of a code holds of its operation now
moved : (code : ℕ) (was now : Operation → Type 0) (o : Option Operation) → earlier_operation_of code ≡ o → ((p : Operation) → earlier_operation_of code ≡ Some p → was p → now p) → IsSomeAnd o was → IsSomeAnd (operation_of code) now
moved code was now None e more fact = absurd fact
moved code was now (Some p) e more fact = let P : Option Operation → Type 0 = λ q. IsSomeAnd q now in subst P (sym (is_same code p e)) (more p e fact)

same_operation : (code : ℕ) (fact : Operation → Type 0) (o : Option Operation) → earlier_operation_of code ≡ o → IsSomeAnd o fact → earlier_operation_of code ≡ operation_of code
same_operation code fact None e some = absurd some
same_operation code fact (Some p) e some = e ∙ sym (is_same code p e)

pub still_accepted : (p : List Insn) → WasAccepted p → IsAccepted p
still_accepted p was = record {
  some = was.some;
  short = omega (arith, was.short);
  each = λ place i here. moved i.code (FieldsFitted (length p) place i) (FieldsFit (length p) place i) (earlier_operation_of i.code) refl
      (λ o is fits. still_fits (length p) place i o (is_old i.code o is) fits) (was.each place i here);
  ends = (was.ends.0, was.ends.1, moved was.ends.0.code IsReturn IsReturn (earlier_operation_of was.ends.0.code) refl (λ o is fact. fact) was.ends.2);
}

same_led : (p : List Insn) → WasAccepted p → (packet : List ℕ) (m : Machine) (place : ℕ) (o : Option Insn) → slice_get p place ≡ o → led_to o packet m ≡ effect_if o packet m
same_led p was packet m place None e = refl
same_led p was packet m place (Some i) e =
    ap (λ o. row_if o i packet m) (same_operation i.code (FieldsFitted (length p) place i) (earlier_operation_of i.code) refl (was.each place i e))

same_leads : (p : List Insn) → WasAccepted p → (packet : List ℕ) (from : Point) → led p packet from ≡ leads p packet from
same_leads p was packet from = same_led p was packet from.machine from.place (slice_get p from.place) refl

pub same_chain : (p : List Insn) (packet : List ℕ) (chain : List Point) → WasAccepted p → WasChain p packet chain ↔ IsChain p packet chain
same_chain p packet chain was = (
  λ c. record {
    starts = c.starts;
    follows = λ k from to e f. (let P : Option Step → Type 0 = λ s. Follows s from to in subst P (same_leads p was packet from) (c.follows k from to e f));
    inside = c.inside;
  },
  λ c. record {
    starts = c.starts;
    follows = λ k from to e f. (let P : Option Step → Type 0 = λ s. Follows s from to in subst P (sym (same_leads p was packet from)) (c.follows k from to e f));
    inside = c.inside;
  },
)

pub same_verdict_given : (p : List Insn) (packet : List ℕ) (value steps : ℕ) → WasAccepted p → Gave p packet value steps ↔ Gives p packet value steps
same_verdict_given p packet value steps was = (
  λ g. record {
    chain = g.chain;
    is_chain = (same_chain p packet g.chain was).0 g.was_chain;
    long = g.long;
    last = g.last;
    at_end = g.at_end;
    ends = sym (same_leads p was packet g.last) ∙ g.ends;
  },
  λ g. record {
    chain = g.chain;
    was_chain = (same_chain p packet g.chain was).1 g.is_chain;
    long = g.long;
    last = g.last;
    at_end = g.at_end;
    ends = same_leads p was packet g.last ∙ g.ends;
  },
)
