-- Chains that grow by the state behind their last one, up to a whole run.
use Rattle.std.proofs.Common.{◌≡◌, ℕ, ◌+◌, ◌-◌, ◌<◌, List, [], ◌∷◌, ◌++◌, length, Option, Some, refl, sym, ap, ◌∙◌, subst, arith, length-append}
use Rattle.std.specs.Prelude.{slice_get}
use Rattle.bpf_check.specs.declared.insn.Insn.{Insn}
use Rattle.bpf_run.specs.declared.machine.Machine.{Machine}
use Rattle.bpf_run.specs.declared.machine.Step.{Step}
use Rattle.bpf_run.specs.declared.machine.Step.TheVariants.{Next, Skip, End}
use Rattle.bpf_run.specs.Chain.{Point, leads, Follows, IsChain, Gives}
use Rattle.bpf_run.specs.Run.{IsRun, EndsAt}
use Rattle.bpf_run.proofs.Chains.{Reaches, push_new, chain_more}

longer : (p : List Insn) (packet : List ℕ) (before states : List Point) (a b : Point) → IsChain p packet (before ++ a ∷ []) → states ≡ before ++ a ∷ [] → Follows (leads p packet a) a b → b.place < length p → IsChain p packet (states ++ b ∷ [])
longer p packet before states a b chain same follows within =
    subst (λ (xs : List Point). IsChain p packet (xs ++ b ∷ [])) (sym same)
    (chain_more p packet (before ++ a ∷ []) (length before) a b chain (length-append before (a ∷ [])) (push_new before a (length before) refl) follows within)

pub longer_next : (p : List Insn) (packet : List ℕ) (before states : List Point) (a : Point) (after : Machine) → IsChain p packet (before ++ a ∷ []) → states ≡ before ++ a ∷ [] → leads p packet a ≡ Some (Next after) → a.place + 1 < length p → IsChain p packet (states ++ record { place = a.place + 1; machine = after } ∷ [])
longer_next p packet before states a after chain same e within =
    let b : Point = record { place = a.place + 1; machine = after } in
    longer p packet before states a b chain same (subst (λ (s : Option Step). Follows s a b) (sym e) refl) within

pub longer_skip : (p : List Insn) (packet : List ℕ) (before states : List Point) (a : Point) (distance to : ℕ) → IsChain p packet (before ++ a ∷ []) → states ≡ before ++ a ∷ [] → leads p packet a ≡ Some (Skip distance) → to ≡ a.place + 1 + distance → to < length p → IsChain p packet (states ++ record { place = to; machine = a.machine } ∷ [])
longer_skip p packet before states a distance to chain same e there within =
    let b : Point = record { place = to; machine = a.machine } in
    let is : b ≡ record { place = a.place + 1 + distance; machine = a.machine } = ap (λ (n : ℕ). record { place = n; machine = a.machine }) there in
    longer p packet before states a b chain same (subst (λ (s : Option Step). Follows s a b) (sym e) is) within

pub whole : (p : List Insn) (packet : List ℕ) (before states : List Point) (a : Point) (value : ℕ) → IsChain p packet (before ++ a ∷ []) → states ≡ before ++ a ∷ [] → leads p packet a ≡ Some (End value) → IsRun p packet states value
whole p packet before states a value chain same e =
    let long : length before ≡ length (before ++ a ∷ []) - 1 = omega (arith, length-append before (a ∷ [])) in
    let run : IsRun p packet (before ++ a ∷ []) value = record {
      is_chain = chain;
      last = a;
      at_end = push_new before a (length (before ++ a ∷ []) - 1) long;
      ends = e;
    } in
    subst (λ (xs : List Point). IsRun p packet xs value) (sym same) run

pub run_gives : (p : List Insn) (packet : List ℕ) (states : List Point) (value : ℕ) → IsRun p packet states value → Gives p packet value (length states)
run_gives p packet states value run = record {
  chain = states;
  is_chain = run.is_chain;
  long = refl;
  last = run.last;
  at_end = run.at_end;
  ends = run.ends;
}

pub ends_here : (p : List Insn) (packet : List ℕ) (steps : ℕ) (a : Point) (value : ℕ) → Reaches p packet steps a → leads p packet a ≡ Some (End value) → EndsAt p packet a.place
ends_here p packet steps a value r ends = record { states = r.chain; value = value; run = run; here = refl }
  where
    last : length r.chain - 1 ≡ steps
    last = omega (arith, r.long)

    run : IsRun p packet r.chain value
    run = record {
      is_chain = r.is_chain;
      last = a;
      at_end = ap (slice_get r.chain) last ∙ r.at_end;
      ends = ends;
    }
