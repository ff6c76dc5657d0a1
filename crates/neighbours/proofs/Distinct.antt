-- There is no duplicate exactly if all are distinct.
use Rattle.std.proofs.Common.{◌≡◌, ℕ, Bool, true, false, List, [], ◌∷◌, map, refl, ap, sym, ◌∙◌, arith, nat_eq, ◌||◌, ◌&&◌, ◌==◌}
use Rattle.std.specs.List.{list_any, IsDistinct, AllByRecursion}
use Rattle.std.specs.Str.{bytes_eq}
use Rattle.std.specs.Cmp.{nat_eq_equiv}
use Rattle.std.specs.Cmp.Lexicographic.{nat_list_eq_equiv}
use Rattle.node_terms.specs.declared.ends.End.{End}
use Rattle.neighbours.specs.declared.key.Key.{Key}
use Rattle.neighbours.specs.declared.neighbour.Neighbour.{Neighbour}
use Rattle.neighbours.specs.Rows.{same_end}
use Rattle.neighbours.specs.Faults.{has_double, has_key, has_double_name}

same_end-sym : (a b : End) → same_end a b ≡ same_end b a
same_end-sym a b =
    ap (λ v. v && (a.port == b.port)) (nat_list_eq_equiv.symm a.addr b.addr)
    ∙ ap (λ v. bytes_eq b.addr a.addr && v) (nat_eq_equiv.symm a.port b.port)

apart : (e : End) (ns : List Neighbour) → list_any (λ other. same_end other.end e) ns ≡ false → AllByRecursion (λ y. same_end e y ≡ false) (map (λ (n : Neighbour). n.end) ns)
apart e [] h = tt
apart e (n ∷ ns) h =
    let here : same_end n.end e ≡ false = grind arith in
    let there : list_any (λ other. same_end other.end e) ns ≡ false = grind arith in
    (same_end-sym e n.end ∙ here, apart e ns there)

together : (e : End) (ns : List Neighbour) → AllByRecursion (λ y. same_end e y ≡ false) (map (λ (n : Neighbour). n.end) ns) → list_any (λ other. same_end other.end e) ns ≡ false
together e [] h = refl
together e (n ∷ ns) h = rw (same_end-sym n.end e ∙ h.0, together e ns h.1) refl

pub distinct_ends : (ns : List Neighbour) → has_double ns ≡ false → IsDistinct same_end (map (λ (n : Neighbour). n.end) ns)
unfolding IsDistinct
distinct_ends [] h = tt
distinct_ends (n ∷ ns) h =
    let here : list_any (λ other. same_end other.end n.end) ns ≡ false = grind arith in
    let there : has_double ns ≡ false = grind arith in
    (apart n.end ns here, distinct_ends ns there)

pub no_double : (ns : List Neighbour) → IsDistinct same_end (map (λ (n : Neighbour). n.end) ns) → has_double ns ≡ false
unfolding IsDistinct
no_double [] h = refl
no_double (n ∷ ns) h = rw (together n.end ns h.0, no_double ns h.1) refl

apart_name : (name : List ℕ) (keys : List Key) → has_key keys name ≡ false → AllByRecursion (λ y. bytes_eq name y ≡ false) (map (λ (k : Key). k.name) keys)
apart_name name [] h = tt
apart_name name (k ∷ keys) h =
    let here : bytes_eq k.name name ≡ false = grind arith in
    let there : has_key keys name ≡ false = grind arith in
    (nat_list_eq_equiv.symm name k.name ∙ here, apart_name name keys there)

together_name : (name : List ℕ) (keys : List Key) → AllByRecursion (λ y. bytes_eq name y ≡ false) (map (λ (k : Key). k.name) keys) → has_key keys name ≡ false
together_name name [] h = refl
together_name name (k ∷ keys) h = rw (nat_list_eq_equiv.symm k.name name ∙ h.0, together_name name keys h.1) refl

pub distinct_names : (keys : List Key) → has_double_name keys ≡ false → IsDistinct bytes_eq (map (λ (k : Key). k.name) keys)
unfolding IsDistinct
distinct_names [] h = tt
distinct_names (k ∷ keys) h =
    let here : has_key keys k.name ≡ false = grind arith in
    let there : has_double_name keys ≡ false = grind arith in
    (apart_name k.name keys here, distinct_names keys there)

pub no_double_name : (keys : List Key) → IsDistinct bytes_eq (map (λ (k : Key). k.name) keys) → has_double_name keys ≡ false
unfolding IsDistinct
no_double_name [] h = refl
no_double_name (k ∷ keys) h = rw (together_name k.name keys h.0, no_double_name keys h.1) refl
