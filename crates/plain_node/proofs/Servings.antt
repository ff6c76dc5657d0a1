-- Answers to all waiters, one after the other.
use Rattle.std.proofs.Common.{◌≡◌, ℕ, ◌+◌, ◌<◌, ◌≤◌, List, [], ◌∷◌, ◌++◌, length, Some, None, get_or, map, take, inl, inr, ap, sym, ◌∙◌, arith, append_assoc}
use Rattle.std.specs.List.{slice_get}
use Rattle.std.proofs.lemmas.List.{take_more, take_all, map-append}
use Rattle.std.proofs.lemmas.Option.{slice_get_within, get_or_from_slice_get, slice_get_cases}
use Rattle.node_words.specs.declared.action.Action.{Action}
use Rattle.node_words.specs.declared.action.Action.TheVariants.{Serve}
use Rattle.object_store.specs.declared.object.SharedObject.{SharedObject}
use Rattle.node_words.specs.declared.action.Answer.{Answer}
use Rattle.node_words.specs.declared.action.Answer.TheVariants.{Got}
use Rattle.plain_node.specs.PlainNode.{serves}

-- one more client is answered
pub served-more : (answer : Answer) (first out next : List Action) (waiters : List ℕ) (i d client : ℕ) → out ≡ first ++ serves answer (take i waiters) → i < length waiters → client ≡ get_or waiters i d → next ≡ out ++ Serve client answer ∷ [] → next ≡ first ++ serves answer (take (i + 1) waiters)
served-more answer first out next waiters i d client so_far lt is more =
    let taken : take (i + 1) waiters ≡ take i waiters ++ client ∷ [] = take_more waiters i d lt ∙ ap (λ x. take i waiters ++ x ∷ []) (sym is) in
    let served : serves answer (take (i + 1) waiters) ≡ serves answer (take i waiters) ++ Serve client answer ∷ [] = ap (serves answer) taken ∙ map-append (λ (c : ℕ). Serve c answer) (take i waiters) (client ∷ []) in
    more ∙ ap (λ x. x ++ Serve client answer ∷ []) so_far ∙ append_assoc first (serves answer (take i waiters)) (Serve client answer ∷ []) ∙ ap (λ x. first ++ x) (sym served)

-- one more client is answered with an object equal to the first
pub served-equal : (first out next : List Action) (waiters : List ℕ) (i d client : ℕ) (object other : SharedObject) → out ≡ first ++ serves (Got object) (take i waiters) → i < length waiters → client ≡ get_or waiters i d → next ≡ out ++ Serve client (Got other) ∷ [] → other ≡ object → next ≡ first ++ serves (Got object) (take (i + 1) waiters)
served-equal first out next waiters i d client object other so_far lt is more equal =
    served-more (Got object) first out next waiters i d client so_far lt is (more ∙ ap (λ (it : SharedObject). out ++ Serve client (Got it) ∷ []) equal)

-- one more element is mapped
pub mapped-more : {A B : Type 0} (f : A → B) (out next : List B) (xs : List A) (i : ℕ) (x : A) → out ≡ map f (take i xs) → slice_get xs i ≡ Some x → next ≡ out ++ f x ∷ [] → (next ≡ map f (take (i + 1) xs)) × (i + 1 ≤ length xs)
mapped-more f out next xs i x so_far here more =
    let lt = slice_get_within xs i x here in
    let is : get_or xs i x ≡ x = get_or_from_slice_get xs i x x here in
    let taken : take (i + 1) xs ≡ take i xs ++ x ∷ [] = take_more xs i x lt ∙ ap (λ y. take i xs ++ y ∷ []) is in
    (more ∙ ap (λ y. y ++ f x ∷ []) so_far ∙ sym (ap (map f) taken ∙ map-append f (take i xs) (x ∷ [])), omega arith)

pub mapped-all : {A B : Type 0} (f : A → B) (out : List B) (xs : List A) (i : ℕ) → out ≡ map f (take i xs) → slice_get xs i ≡ None → out ≡ map f xs
mapped-all f out xs i so_far none =
    elim (slice_get_cases xs i).1 [
      | inl w ↦ absurd (let e : None ≡ Some w.0 = sym none ∙ w.2 in cc)
      | inr w ↦ so_far ∙ ap (map f) (take_all i xs w.0)
    ]
