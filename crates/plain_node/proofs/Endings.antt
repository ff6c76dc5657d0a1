-- The effect of the end of an attempt, given its fetch.
use Rattle.std.proofs.Common.{◌≡◌, nat_eq, ℕ, Bool, true, false, List, [], Option, Some, None, refl, ap, sym, ◌∙◌}
use Rattle.peer_select.specs.Poll.{decided}
use Rattle.pending_fetch.specs.Fetches.{PendingFetch, changed, with_next}
use Rattle.pending_fetch.specs.Calls.{FetchFacts, told}
use Rattle.node_words.specs.declared.action.Action.{Action}
use Rattle.node_words.specs.declared.event.Outcome.{Outcome}
use Rattle.plain_node.specs.PlainNode.{PlainNode, with_fetches}
use Rattle.plain_node.specs.Sources.{attempt_step, source_of}
use Rattle.plain_node.specs.Outcomes.{counts, counted_outcome, outcome_step, next_step}

pub counts_decided : (view : FetchFacts) (f : PendingFetch) (d : Bool) (attempt : ℕ) → view ≡ told f → d ≡ decided view.round → d ≡ true → nat_eq view.attempt attempt ≡ counts f attempt
counts_decided view f d attempt e p q =
    let h : decided f.round ≡ true = sym (ap (λ (t : FetchFacts). decided t.round) e) ∙ sym p ∙ q in
    ap (λ (t : FetchFacts). nat_eq t.attempt attempt) e ∙ rw h refl

pub counts_undecided : (view : FetchFacts) (f : PendingFetch) (d : Bool) (attempt : ℕ) → view ≡ told f → d ≡ decided view.round → d ≡ false → d ≡ counts f attempt
counts_undecided view f d attempt e p q =
    let h : decided f.round ≡ false = sym (ap (λ (t : FetchFacts). decided t.round) e) ∙ sym p ∙ q in
    q ∙ rw h refl

pub ignored : (node : PlainNode) (attempt : ℕ) (outcome : Outcome) (o : Option PendingFetch) (r : Bool) → ((f : PendingFetch) → o ≡ Some f → r ≡ counts f attempt) → r ≡ false → counted_outcome node attempt outcome o ≡ (node, [])
ignored node attempt outcome None r h e = refl
ignored node attempt outcome (Some f) r h e = let k : counts f attempt ≡ false = sym (h f refl) ∙ e in rw k refl

pub counting : (P : PlainNode × List Action → Type 0) (node : PlainNode) (attempt : ℕ) (outcome : Outcome) (o : Option PendingFetch) (r : Bool) → ((f : PendingFetch) → o ≡ Some f → r ≡ counts f attempt) → (o ≡ None → r ≡ false) → r ≡ true → ((f : PendingFetch) → o ≡ Some f → P (outcome_step node f outcome)) → P (counted_outcome node attempt outcome o)
counting P node attempt outcome None r h a t last = absurd (let e : false ≡ true = sym (a refl) ∙ t in cc)
counting P node attempt outcome (Some f) r h a t last = let k : counts f attempt ≡ true = sym (h f refl) ∙ t in rw k (last f refl)

pub gone_on : (node before : PlainNode) (number : ℕ) (f : PendingFetch) → f.number ≡ number → before ≡ with_fetches node (changed with_next number node.fetches.list) → attempt_step before 502 (with_next f) (source_of before (with_next f)) ≡ next_step node f
unfolding next_step
gone_on node before number f n e =
    ap (λ (b : PlainNode). attempt_step b 502 (with_next f) (source_of b (with_next f))) e ∙ ap (λ (m : ℕ). attempt_step (with_fetches node (changed with_next m node.fetches.list)) 502 (with_next f) (source_of node (with_next f))) (sym n)
