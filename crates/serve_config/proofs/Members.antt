-- Laws about the members of objects.
use Rattle.std.proofs.Common.{◌≡◌, List, [], ◌∷◌, ◌++◌, map, refl, sym, ap, ◌∙◌}
use Rattle.std.specs.Prelude.{String}
use Rattle.std.specs.String.{string_bytes}
use Rattle.std.specs.declared.alloc.Global.{Global}
use Rattle.std.proofs.lemmas.List.{map-append}
use Rattle.serde_json.specs.Data.{Data, Members, no_members, member}
use Rattle.serde_json.specs.View.{members_of, members_view, view}
use Rattle.serde_json.specs.declared.value.Value.{Value}

-- these members before others
abbrev pub onto : List (String Global × Data) → Members → Members
onto [] rest = rest
onto (m ∷ ms) rest = member (string_bytes m.0) m.1 (onto ms rest)

onto_more : (ms : List (String Global × Data)) (m : String Global × Data) (rest : Members) → onto (ms ++ m ∷ []) rest ≡ onto ms (member (string_bytes m.0) m.1 rest)
onto_more [] m rest = refl
onto_more (n ∷ ms) m rest = rw (onto_more ms m rest) refl

onto_none : (ms : List (String Global × Data)) → onto ms no_members ≡ members_of ms
onto_none [] = refl
onto_none (m ∷ ms) = rw (onto_none ms) refl

-- one member more
pub more_members : {X : Type 0} (named : X → String Global × Data) (entries left rest : List (String Global × Value)) (key : String Global) (value : Value)
    (xs after : List X) (x : X) → members_view entries ≡ onto (map named xs) (members_view left) → left ≡ (key, value) ∷ rest → after ≡ xs ++ x ∷ []
    → string_bytes (named x).0 ≡ string_bytes key → (named x).1 ≡ view value → members_view entries ≡ onto (map named after) (members_view rest)
more_members named entries left rest key value xs after x all first pushed name this =
    all ∙ ap (λ l. onto (map named xs) (members_view l)) first
    ∙ ap (λ k. onto (map named xs) (member k (view value) (members_view rest))) (sym name)
    ∙ ap (λ d. onto (map named xs) (member (string_bytes (named x).0) d (members_view rest))) (sym this)
    ∙ sym (onto_more (map named xs) (named x) (members_view rest))
    ∙ ap (λ ms. onto ms (members_view rest)) (sym (map-append named xs (x ∷ [])))
    ∙ ap (λ ys. onto (map named ys) (members_view rest)) (sym pushed)

-- all of them
pub all_members : {X : Type 0} (named : X → String Global × Data) (entries left : List (String Global × Value)) (xs : List X)
    → members_view entries ≡ onto (map named xs) (members_view left) → left ≡ [] → members_view entries ≡ members_of (map named xs)
all_members named entries left xs all none = all ∙ ap (λ l. onto (map named xs) (members_view l)) none ∙ onto_none (map named xs)
