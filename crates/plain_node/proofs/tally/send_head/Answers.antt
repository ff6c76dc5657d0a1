-- The address is written octet by octet.
use Rattle.std.proofs.Common.{rules, ◌≡◌, ◌++◌, ℕ, List, [], ◌∷◌, length, get_or, refl, sym, ap, arith}
use Rattle.object_store.specs.Object.{spelled_number}
use Rattle.plain_node.proofs.tally.send_head.Goals as goal

-- an address is its four octets
four : (xs : List ℕ) → length xs ≡ 4 → xs ≡ get_or xs 0 0 ∷ get_or xs 1 0 ∷ get_or xs 2 0 ∷ get_or xs 3 0 ∷ []
four [] e = absurd (omega arith)
four (a ∷ []) e = absurd (omega arith)
four (a ∷ b ∷ []) e = absurd (omega arith)
four (a ∷ b ∷ x ∷ []) e = absurd (omega arith)
four (a ∷ b ∷ x ∷ y ∷ []) e = refl
four (a ∷ b ∷ x ∷ y ∷ z ∷ zs) e = absurd (omega arith)

pub returns : goal.returns
unfolding spelled_number
returns c =
    let to = c.args.to in
    let long : length to.addr ≡ 4 = search rules in
    rw (c.socket_octet-choice.ensures, c.to_be_bytes-port.ensures, c.to_be_bytes-length.ensures, c.from.ensures)
    (ap (λ (a : List ℕ). 0 ∷ c.socket_octet-choice.result ∷ (a ++ spelled_number to.port ++ spelled_number c.args.octets)) (sym (four to.addr long)))
