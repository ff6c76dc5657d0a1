-- The octets of receipts, and dropping those for which there is no room.
use Rattle.std.proofs.Common.{◌≡◌, ℕ, ◌+◌, ◌*◌, ◌<◌, ◌≤◌, Bool, true, false, List, [], ◌∷◌, length, drop, if◌then◌else◌, refl, sym, ap, arith}
use Rattle.std.specs.Prelude.{nat_le, min}
use Rattle.std.proofs.lemmas.List.Sums.{sum_by-cons}
use Rattle.std.proofs.lemmas.Bool.Decides.{nat_tests}
use Rattle.node_book.specs.Contents.{contents_of}
use Rattle.node_book.specs.Seats.{Claim, light, receipt_octets}

pub octets-few : (rs : List Claim) → receipt_octets rs ≤ 4294967295 * length rs
octets-few [] = omega arith
octets-few (x ∷ rs) =
    let one : contents_of x.event ≤ 4294967295 = grind arith in
    omega (arith, one, octets-few rs, sum_by-cons (λ (r : Claim). contents_of r.event) x rs)

pub light-heavy : (room : ℕ) (rs : List Claim) → room < receipt_octets rs → light room (drop 1 rs) ≡ light room rs
light-heavy room [] h = refl
light-heavy room (x ∷ rs) h =
    let no : nat_le (receipt_octets (x ∷ rs)) room ≡ false = grind (arith, nat_tests) in
    sym (ap (λ (b : Bool). if b then x ∷ rs else light room rs) no)

pub light-whole : (room : ℕ) (rs : List Claim) → receipt_octets rs ≤ room → light room rs ≡ rs
light-whole room [] h = refl
light-whole room (x ∷ rs) h =
    let yes : nat_le (receipt_octets (x ∷ rs)) room ≡ true = grind (arith, nat_tests) in
    ap (λ (b : Bool). if b then x ∷ rs else light room rs) yes
