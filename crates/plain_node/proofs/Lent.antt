-- The borrowed view of a fetch agrees with the pending fetch.
use Rattle.std.proofs.Common.{◌≡◌, ◌==◌, ℕ, true, false, List, [], ◌∷◌, Option, Some, None, option_map, refl, ap, sym, ◌∙◌, arith, if◌then◌else◌}
use Rattle.std.proofs.lemmas.Bool.Decides.{nat_tests}
use Rattle.std.specs.Prelude.{IfSome, unwrap_or}
use Rattle.neighbours.specs.declared.neighbour.Neighbour.{Neighbour}
use Rattle.peer_select.specs.Poll.{matches}
use Rattle.pending_fetch.specs.declared.fetch.Fetch.{Fetch}
use Rattle.pending_fetch.specs.declared.fetch.Located.{Located}
use Rattle.pending_fetch.specs.Fetches.{PendingFetch, fetch_of}
use Rattle.pending_fetch.specs.FetchIndex.{fetch_index}
use Rattle.pending_fetch.specs.Calls.{FetchFacts, told, shown, fits}

pub some_is : {A : Type 0} (a b : A) → Some a ≡ Some b → a ≡ b
some_is a b e = ap (λ o. unwrap_or o a) e

pub none_is : {A : Type 0} (a : A) {P : Type 0} → None ≡ Some a → P
none_is a e = absurd cc

pub matching_of : (neighbours : List Neighbour) (o : Option PendingFetch) (lent : Option Fetch) → option_map shown lent ≡ option_map told o → fits neighbours o ≡ true → IfSome lent (λ fetch. matches neighbours fetch.round.now.peers ≡ true)
matching_of neighbours o None e h = tt
matching_of neighbours None (Some fetch) e h = absurd cc
matching_of neighbours (Some f) (Some fetch) e h = ap (λ (t : FetchFacts). matches neighbours t.round.peers) (some_is (shown fetch) (told f) e) ∙ h

-- its index is the one returned with it
pub placed_at : (number : ℕ) (list : List PendingFetch) (o : Option Located) → option_map (λ (it : Located). it.place) o ≡ fetch_index number list → IfSome o (λ it. fetch_index number list ≡ Some it.place)
placed_at number list None e = tt
placed_at number list (Some it) e = sym e

-- the fetch found by a number has that number
pub number_is : (number : ℕ) (list : List PendingFetch) (f : PendingFetch) → fetch_of number list ≡ Some f → f.number ≡ number
number_is number [] f found = absurd cc
number_is number (g ∷ list) f found =
    elim (g.number == number) as (λ v. ((g.number == number) ≡ v) → (if v then Some g else fetch_of number list) ≡ Some f → f.number ≡ number) [
      | true ↦ λ e h. let n : g.number ≡ number = grind (arith, nat_tests) in sym (ap (λ (x : PendingFetch). x.number) (some_is g f h)) ∙ n
      | false ↦ λ e h. number_is number list f h
    ] refl found
