-- The addresses, octet by octet.
use Rattle.std.proofs.Common.{rules, ◌≡◌, ℕ, List, [], ◌∷◌, length, get_or, refl, sym, ap, ◌∙◌, arith}
use Rattle.filter_slots.specs.Datagram.{ends_of}
use Rattle.filter_slots.proofs.datagram.both_ends.Goals as goal

-- an address is its four octets
four : (xs : List ℕ) → length xs ≡ 4 → xs ≡ get_or xs 0 0 ∷ get_or xs 1 0 ∷ get_or xs 2 0 ∷ get_or xs 3 0 ∷ []
four [] e = absurd (omega arith)
four (a ∷ []) e = absurd (omega arith)
four (a ∷ b ∷ []) e = absurd (omega arith)
four (a ∷ b ∷ x ∷ []) e = absurd (omega arith)
four (a ∷ b ∷ x ∷ y ∷ []) e = refl
four (a ∷ b ∷ x ∷ y ∷ z ∷ zs) e = absurd (omega arith)

pub returns : goal.returns
returns c =
    let from = c.args.from in
    let to = c.args.to in
    let long : length from.addr ≡ 4 = search rules in
    let long' : length to.addr ≡ 4 = search rules in
    rw (c.to_be_bytes-source.ensures, c.to_be_bytes-target.ensures)
    (sym
    (ap (λ (a : List ℕ). ends_of (record { addr = a; port = from.port }) to) (four from.addr long)
    ∙ ap (λ (b : List ℕ). ends_of (record { addr = get_or from.addr 0 0 ∷ get_or from.addr 1 0 ∷ get_or from.addr 2 0 ∷ get_or from.addr 3 0 ∷ []; port = from.port }) (record { addr = b; port = to.port })) (four to.addr long')))
