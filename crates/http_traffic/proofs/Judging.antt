-- Servers that were judged, and those that are left of them.
use Rattle.std.proofs.Common.{Bool, List, [], ◌∷◌, subst, sym, true, false}
use Rattle.std.specs.List.{items_where_true}
use Rattle.std.specs.List.Retain.{IsFiltered}
use Rattle.origin_rules.specs.declared.admitted.Admitted.{Admitted}
use Rattle.http_traffic.specs.Judged.{AllJudged}

kept : (by_rules : Bool) (bs : List Bool) (list : List Admitted) → AllJudged by_rules list → AllJudged by_rules (items_where_true bs list)
kept by_rules [] list h = tt
kept by_rules (b ∷ bs) [] h = tt
kept by_rules (true ∷ bs) (it ∷ list) h = (h.0, kept by_rules bs list h.1)
kept by_rules (false ∷ bs) (it ∷ list) h = kept by_rules bs list h.1

-- what is left of those that were judged was judged
pub left_judged : {F : Type 0} (R : F → Admitted → Bool → F → Type 0) (f : F) (by_rules : Bool) (list left : List Admitted) → IsFiltered R f list left → AllJudged by_rules list
    → AllJudged by_rules left
left_judged R f by_rules list left is h = subst (λ l. AllJudged by_rules l) (sym is.4) (kept by_rules is.0 list h)
