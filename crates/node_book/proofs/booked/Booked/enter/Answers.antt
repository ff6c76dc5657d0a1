use Rattle.std.proofs.Common.{◌≡◌, false, ◌<◌, ◌≤◌, ◌∙◌, ap, ◌++◌, [], ◌∷◌, map, subst, sym, length, arith}
use Rattle.std.proofs.lemmas.List.{map-append}
use Rattle.node_core.specs.Happening.{happening}
use Rattle.node_book.specs.Book.{Book, count_of, entry_octets, is_full}
use Rattle.node_book.specs.Kept.{book_of}
use Rattle.node_book.specs.Entries.{entry_of}
use Rattle.node_book.proofs.Legal.{legal-push, longer-octets, short, slender}
use Rattle.node_book.proofs.booked.Booked.enter.Goals as goal

pub invariant_of-self-2 : goal.invariant_of-self-2
invariant_of-self-2 c =
    let room : Book → Type 0 = λ b. (is_full b ≡ false) × (count_of b < 18446744073709551615) in
    let has = subst room (sym c.self.view_is) c.requires.room in
    let legal = c.self.invariant.0 in
    let roomy = c.self.invariant.1 in
    let capacity = c.append.ensures.capacity in (
      legal-push (book_of c.self.inside) _ _ _ _ legal
          (ap (map entry_of) c.append.ensures.items ∙ map-append entry_of c.self.inside.kept.items _
          ∙ (λ i. map entry_of c.self.inside.kept.items ++ (happening ((c.in_ok-shared.ensures ∙ sym c.deref.ensures) i), c.tally-tally.ensures i) ∷ []))
          (c.append_law.ensures.one _ _ _ _ _ _ _ legal.taken c.in_ok-step.ensures.taken)
          (short (book_of c.self.inside) legal has.0) has.1,
      (omega (arith, capacity, roomy)),
      (let whole =
          ap entry_octets (ap (map entry_of) c.append.ensures.items ∙ map-append entry_of c.self.inside.kept.items _)
          ∙ longer-octets (map entry_of c.self.inside.kept.items) _ in
          omega (arith, c.self.invariant.2, c.append.ensures.octets, whole)),
    )

pub append-requires-clause-few : goal.append-requires-clause-few
append-requires-clause-few c =
    let room : Book → Type 0 = λ b. (is_full b ≡ false) × (count_of b < 18446744073709551615) in
    let has = subst room (sym c.self.view_is) c.requires.room in
    let few = slender (book_of c.self.inside) has.0 in
    let small = c.self.invariant.0.octets_fit.1 in
    omega (arith, few, small, c.self.invariant.2)
