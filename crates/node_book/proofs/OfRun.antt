-- Good receipts of a book that was never turned: their order within a seat, and their places in a run.
use Rattle.std.proofs.Common.{◌≡◌, ℕ, zero, suc, ◌-◌, ◌<◌, ◌≤◌, Bool, true, false, ◌&&◌, List, [], ◌∷◌, take, map, option_map, Option, Some, None, refl, sym, ap, subst, ◌∙◌, arith}
use Rattle.std.specs.Prelude.{slice_get, nat_lt}
use Rattle.std.specs.List.{list_all}
use Rattle.std.proofs.lemmas.Bool.Decides.{nat_tests}
use Rattle.std.proofs.lemmas.Option.{slice_get-map}
use Rattle.node_words.specs.declared.action.Action.{Action}
use Rattle.plain_node.specs.declared.tally.Tally.{Tally}
use Rattle.plain_node.specs.Tally.{tally_of}
use Rattle.node_core.specs.Happening.{Happening}
use Rattle.node_book.specs.Book.{Book, IsLegal, events_of, tallies_of, outs_of}
use Rattle.node_book.specs.Seats.{Claim, Held}
use Rattle.node_book.specs.Good.{AreAllGood, AreRising, AreAllOfRun, IsOfRun, Stands}

both : (a b : Bool) → (a && b) ≡ true → (a ≡ true) × (b ≡ true)
both true b h = (refl, h)
both false b h = absurd (cc h)

-- an element before place j has a lower number, if all before place j have
lower-at : (cs : List Claim) (n i j : ℕ) (c : Claim) → i < j → slice_get cs i ≡ Some c → list_all (λ (d : Claim). nat_lt d.number n) (take j cs) ≡ true → c.number < n
lower-at [] n zero j c lt at all = absurd (cc at)
lower-at [] n (suc i) j c lt at all = absurd (cc at)
lower-at (x ∷ cs) n i zero c lt at all = absurd (omega (arith, lt))
lower-at (x ∷ cs) n zero (suc j) c lt at all =
    let same : x ≡ c = cc at in
    let here : nat_lt x.number n ≡ true = (both (nat_lt x.number n) (list_all (λ (d : Claim). nat_lt d.number n) (take j cs)) all).0 in
    let low : x.number < n = grind (arith, nat_tests) in
    subst (λ (d : Claim). d.number < n) same low
lower-at (x ∷ cs) n (suc i) (suc j) c lt at all =
    lower-at cs n i j c (omega (arith, lt)) at (both (nat_lt x.number n) (list_all (λ (d : Claim). nat_lt d.number n) (take j cs)) all).1

pub all-rising : (b : Book) (seats : List Held) → b.base ≡ 0 → AreAllGood b seats → (i : ℕ) (seat : Held) → slice_get seats i ≡ Some seat → AreRising seat.receipts
all-rising b seats base good i seat at m n earlier later lt first then =
    lower-at seat.receipts later.number m n earlier lt first (good i seat at n later then (omega (arith, base))).rising

-- the actions of a tally
actions-of : (t : Tally) (x : Option (List Action)) → option_map tally_of x ≡ Some t → (actions : List Action) × (x ≡ Some actions) × (t ≡ tally_of actions)
actions-of t None h = absurd (cc h)
actions-of t (Some actions) h = (actions, refl, cc h)

of-run : (b : Book) (r : Claim) → IsLegal b → b.base ≡ 0 → Stands b r → IsOfRun b r
of-run b r legal base stands =
    let place : r.number - b.base ≡ r.number = omega (arith, base) in
    let there : slice_get b.entries r.number ≡ Some (r.event, r.tally) = subst (λ (n : ℕ). slice_get b.entries n ≡ Some (r.event, r.tally)) place stands.there in
    let event : slice_get (events_of b.entries) r.number ≡ Some r.event =
    slice_get-map (λ (e : Happening × Tally). e.0) b.entries r.number ∙ ap (option_map (λ (e : Happening × Tally). e.0)) there in
    let tally : slice_get (tallies_of b.entries) r.number ≡ Some r.tally =
    slice_get-map (λ (e : Happening × Tally). e.1) b.entries r.number ∙ ap (option_map (λ (e : Happening × Tally). e.1)) there in
    let ran : option_map tally_of (slice_get (outs_of b) r.number) ≡ Some r.tally =
    sym (slice_get-map tally_of (outs_of b) r.number) ∙ ap (λ (l : List Tally). slice_get l r.number) (sym legal.tallied) ∙ tally in
    let some = actions-of r.tally (slice_get (outs_of b) r.number) ran in
    record { actions = some.0; event = event; answer = some.1; tally = some.2 }

pub all-of-run : (b : Book) (seats : List Held) → IsLegal b → b.base ≡ 0 → AreAllGood b seats → AreAllOfRun b seats
all-of-run b seats legal base good i seat at j receipt there = of-run b receipt legal base (good i seat at j receipt there (omega (arith, base))).stands
