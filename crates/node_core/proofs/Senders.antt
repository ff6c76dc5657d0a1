-- The neighbours of a setup without a fault satisfy the requirements of slots: few, and with distinct addresses.
use Rattle.std.proofs.Common.{◌≡◌, ℕ, zero, suc, ◌≤◌, ◌==◌, nat_lt, Bool, true, false, ◌||◌, List, [], ◌∷◌, length, map, Option, Some, None, refl, ap, sym, ◌∙◌, arith}
use Rattle.std.specs.Prelude.{slice_get, if◌then◌else◌}
use Rattle.std.specs.List.{list_any}
use Rattle.std.proofs.lemmas.Bool.Decides.{nat_tests}
use Rattle.std.proofs.lemmas.Slice.Eq.{bytes_eq-Decides}
use Rattle.node_terms.specs.declared.ends.End.{End}
use Rattle.node_terms.specs.declared.ends.Socket.{Socket}
use Rattle.filter_slots.specs.Filters.{AreNeighbours}
use Rattle.neighbours.specs.declared.fault.ConfigFault.{ConfigFault}
use Rattle.neighbours.specs.declared.fault.ConfigFault.TheVariants.{Count, DoubleAddress}
use Rattle.neighbours.specs.declared.neighbour.Neighbour.{Neighbour}
use Rattle.neighbours.specs.declared.key.Key.{Key}
use Rattle.neighbours.specs.Faults.{fault_of, has_double}
use Rattle.neighbours.specs.Rows.{same_end}
use Rattle.plain_node.specs.Settings.{Setup, setup_fault, fault_with}
use Rattle.node_core.specs.State.{sender_of}

fault_with-none : (setup : Setup) (fault : Option ConfigFault) → fault_with setup fault ≡ None → fault ≡ None
fault_with-none setup None e = refl
fault_with-none setup (Some fault) e = let no : ⊥ = cc in absurd no

none-if : {F : Type 0} (b : Bool) (fault : F) (rest : Option F) → (if b then Some fault else rest) ≡ None → (b ≡ false) × (rest ≡ None)
none-if true fault rest e = let no : ⊥ = cc in absurd no
none-if false fault rest e = (refl, e)

neither : (a b : Bool) → (a || b) ≡ false → (a ≡ false) × (b ≡ false)
neither true b e = let no : ⊥ = cc in absurd no
neither false b e = (refl, e)

port_itself : (a : ℕ) → (a == a) ≡ true
port_itself a = grind (arith, nat_tests)

end_itself : (e : End) → same_end e e ≡ true
end_itself e = rw ((bytes_eq-Decides e.addr e.addr).1 refl, port_itself e.port) refl

or_right : (a b : Bool) → b ≡ true → (a || b) ≡ true
or_right true b e = refl
or_right false b e = e

length-senders : (ns : List Neighbour) → length (map sender_of ns) ≡ length ns
length-senders [] = refl
length-senders (x ∷ ns) = ap suc (length-senders ns)

within : (n : ℕ) → nat_lt 64 n ≡ false → n ≤ 64
within n e = grind (arith, nat_tests)

-- a neighbour in the list is found by its address
any-there : (e : End) (ns : List Neighbour) (n : ℕ) (pair : Socket × End) → slice_get (map sender_of ns) n ≡ Some pair → pair.1 ≡ e
    → list_any (λ other. same_end other.end e) ns ≡ true
any-there e [] n pair at is = let no : ⊥ = cc in absurd no
any-there e (x ∷ ns) zero pair at is =
    let same : sender_of x ≡ pair = cc in
    let end : x.end ≡ e = ap (λ (p : Socket × End). p.1) same ∙ is in
    rw (ap (λ (y : End). same_end y e) end ∙ end_itself e) refl
any-there e (x ∷ ns) (suc n) pair at is =
    let rest = any-there e ns n pair at is in
    or_right (same_end x.end e) (list_any (λ other. same_end other.end e) ns) rest

met : (x : Neighbour) (ns : List Neighbour) (n : ℕ) (pair : Socket × End) → list_any (λ other. same_end other.end x.end) ns ≡ false
    → Some (sender_of x) ≡ Some pair → slice_get (map sender_of ns) n ≡ Some pair → ⊥
met x ns n pair none at_x at_n =
    let same : sender_of x ≡ pair = cc in
    let is : pair.1 ≡ x.end = sym (ap (λ (p : Socket × End). p.1) same) in
    let there = any-there x.end ns n pair at_n is in cc

apart-by-ends : (ns : List Neighbour) → has_double ns ≡ false → (m n : ℕ) (pair : Socket × End) → slice_get (map sender_of ns) m ≡ Some pair → slice_get (map sender_of ns) n ≡ Some pair → m ≡ n
apart-by-ends [] h m n pair at_m at_n = let no : ⊥ = cc in absurd no
apart-by-ends (x ∷ ns) h zero zero pair at_m at_n = refl
apart-by-ends (x ∷ ns) h zero (suc n) pair at_m at_n = absurd (met x ns n pair (neither (list_any (λ other. same_end other.end x.end) ns) (has_double ns) h).0 at_m at_n)
apart-by-ends (x ∷ ns) h (suc m) zero pair at_m at_n = absurd (met x ns m pair (neither (list_any (λ other. same_end other.end x.end) ns) (has_double ns) h).0 at_n at_m)
apart-by-ends (x ∷ ns) h (suc m) (suc n) pair at_m at_n =
    ap suc (apart-by-ends ns (neither (list_any (λ other. same_end other.end x.end) ns) (has_double ns) h).1 m n pair at_m at_n)

no_fault : (ns : List Neighbour) (keys : List Key) → fault_of ns keys ≡ None → AreNeighbours (map sender_of ns)
no_fault ns keys e =
    let first = none-if (nat_lt 64 (length ns)) Count _ e in
    let second = none-if (has_double ns) DoubleAddress _ first.1 in
    record { few = rw (length-senders ns) (within (length ns) first.0); apart = apart-by-ends ns second.0 }

-- a setup without a fault
pub faultless : (setup : Setup) → setup_fault setup ≡ None → AreNeighbours (map sender_of setup.neighbours)
faultless setup e = no_fault setup.neighbours setup.keys (fault_with-none setup (fault_of setup.neighbours setup.keys) e)
