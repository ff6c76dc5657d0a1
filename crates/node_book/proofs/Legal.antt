-- A legal book with one event more is legal.
use Rattle.std.proofs.Common.{◌≡◌, ℕ, Bool, true, false, ◌<◌, ◌≤◌, ◌+◌, List, [], ◌∷◌, ◌++◌, length, map, sym, subst, ap, ◌∙◌, arith}
use Rattle.std.proofs.lemmas.List.{map-append, length-append}
use Rattle.std.proofs.lemmas.List.Sums.{sum_by-append, sum_by-cons}
use Rattle.node_book.specs.Contents.{contents_of}
use Rattle.node_words.specs.declared.action.Action.{Action}
use Rattle.node_core.specs.Happening.{Happening}
use Rattle.node_core.specs.Run.{answers}
use Rattle.node_core.specs.State.{State, HasTaken}
use Rattle.plain_node.specs.declared.tally.Tally.{Tally}
use Rattle.plain_node.specs.Tally.{tally_of}
use Rattle.std.specs.Prelude.{nat_le, ◌==◌, ◌||◌}
use Rattle.std.proofs.lemmas.Bool.Decides.{nat_tests}
use Rattle.node_book.specs.Book.{Book, IsLegal, count_of, entry_octets, events_of, is_full, tallies_of, outs_of}

pub legal-push : (b : Book) (event : Happening) (actions : List Action) (entries : List (Happening × Tally)) (state : State) → IsLegal b
    → entries ≡ b.entries ++ (event, tally_of actions) ∷ []
    → HasTaken b.opening state (events_of b.entries ++ event ∷ []) (outs_of b ++ actions ∷ [])
    → length b.entries < b.volume → count_of b < 18446744073709551615
    → IsLegal (record b { entries = entries; present = state })
legal-push b event actions entries state legal grown taken room fits =
    let events : events_of entries ≡ events_of b.entries ++ event ∷ [] = ap events_of grown ∙ map-append _ b.entries _ in
    let outs : answers b.opening.plain b.opening.filters (events_of entries) ≡ outs_of b ++ actions ∷ [] = ap (answers b.opening.plain b.opening.filters) events ∙ sym taken.sent in
    let longer : length entries ≡ length b.entries + 1 = ap length grown ∙ length-append b.entries _ in
    record {
      taken =
          subst (λ (es : List Happening). HasTaken b.opening state es (answers b.opening.plain b.opening.filters (events_of entries))) (sym events)
          (subst (λ (os : List (List Action)). HasTaken b.opening state (events_of b.entries ++ event ∷ []) os) (sym outs) taken);
      tallied =
          ap tallies_of grown ∙ map-append _ b.entries _
          ∙ ap (λ (ts : List Tally). ts ++ tally_of actions ∷ []) legal.tallied
          ∙ sym (map-append tally_of (outs_of b) _)
          ∙ ap (λ (os : List (List Action)). map tally_of os) (sym outs);
      first_opens = legal.first_opens;
      count_fits = omega (arith, longer);
      volume_fits = legal.volume_fits;
      entries_fit = omega (arith, longer);
      octets_fit = legal.octets_fit;
    }

pub longer-octets : (entries : List (Happening × Tally)) (entry : Happening × Tally)
    → entry_octets (entries ++ entry ∷ []) ≡ entry_octets entries + contents_of entry.0
longer-octets entries entry =
    let f : Happening × Tally → ℕ = λ e. contents_of e.0 in
    omega (arith, sum_by-append f entries (entry ∷ []), sum_by-cons f entry [])

neither : (a b : Bool) → (a || b) ≡ false → (a ≡ false) × (b ≡ false)
neither true b h = absurd cc
neither false b h = (cc, h)

-- a legal book that is not full has room for another event
pub short : (b : Book) → IsLegal b → is_full b ≡ false → length b.entries < b.volume
short b legal room =
    let none = neither (length b.entries == b.volume) (nat_le b.octets (entry_octets b.entries)) room in
    let other : (length b.entries == b.volume) ≡ false = none.0 in
    let fit = legal.entries_fit in
    grind (arith, nat_tests)

-- and its contents are fewer than the capacity in octets
pub slender : (b : Book) → is_full b ≡ false → entry_octets b.entries < b.octets
slender b room =
    let none = neither (length b.entries == b.volume) (nat_le b.octets (entry_octets b.entries)) room in
    let other : nat_le b.octets (entry_octets b.entries) ≡ false = none.1 in
    grind (arith, nat_tests)
