-- Servers that are judged one by one, and those that are chosen of them.
use Rattle.std.proofs.Common.{◌≡◌, ◌<◌, ◌+◌, ℕ, Bool, List, [], ◌∷◌, ◌++◌, Option, Some, None, get_or, length, subst, sym, take}
use Rattle.std.proofs.lemmas.Slice.Zip.{all_zipped_more}
use Rattle.std.proofs.lemmas.List.{take_more}
use Rattle.std.specs.declared.net.socket_addr.SocketAddr.{SocketAddr}
use Rattle.origin_rules.specs.declared.admitted.Admitted.{Admitted}
use Rattle.origin_rules.specs.Chosen.{chosen}
use Rattle.http_traffic.specs.Judged.{IsJudged, AreJudged, AllJudged}

-- one more is judged, the one at this place
pub judged_at : (by_rules : Bool) (servers : List SocketAddr) (judged after : List (Option Admitted)) (i : ℕ) (one : Option Admitted) (other : SocketAddr) → i < length servers → after ≡ judged ++ one ∷ [] → AreJudged by_rules (take i servers) judged
    → IsJudged by_rules (get_or servers i other) one → AreJudged by_rules (take (i + 1) servers) after
judged_at by_rules servers judged after i one other lt is before this =
    let step : AreJudged by_rules (take i servers ++ get_or servers i other ∷ []) (judged ++ one ∷ []) =
    all_zipped_more (IsJudged by_rules) (take i servers) judged (get_or servers i other) one before this in
    subst (λ l. AreJudged by_rules (take (i + 1) servers) l) (sym is)
    (subst (λ l. AreJudged by_rules l (judged ++ one ∷ [])) (sym (take_more servers i other lt)) step)

-- those that are chosen of them were judged
pub chosen_judged : (by_rules : Bool) (servers : List SocketAddr) (judged : List (Option Admitted)) → AreJudged by_rules servers judged → AllJudged by_rules (chosen judged)
chosen_judged by_rules [] [] h = tt
chosen_judged by_rules [] (one ∷ judged) h = absurd h
chosen_judged by_rules (server ∷ servers) [] h = absurd h
chosen_judged by_rules (server ∷ servers) (None ∷ judged) h = chosen_judged by_rules servers judged h.1
chosen_judged by_rules (server ∷ servers) (Some it ∷ judged) h = (h.0.1, chosen_judged by_rules servers judged h.1)
