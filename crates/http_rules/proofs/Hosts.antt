-- Laws about the hosts and ports that targets name. 58 is a colon.
use Rattle.std.proofs.Common.{◌≡◌, ◌≢◌, ℕ, ◌<◌, List, length, get_or, true, false, refl, sym, ◌∙◌, arith, Option, Some, None, MatchOption, Bor}
use Rattle.std.specs.List.{list_all}
use Rattle.std.proofs.lemmas.Bool.{and_parts, both_ways}
use Rattle.std.proofs.lemmas.List.Folds.{list_all_at}
use Rattle.std.proofs.lemmas.Str.Pattern.{IsSplitOnceResult, split_after, split_parts}
use Rattle.http_rules.specs.Authorities.{IsAuthority, is_name_octet, is_registered_name, port_of}

-- no octet of a name is a colon
no_colon : (host : List ℕ) → is_registered_name host ≡ true → (i : ℕ) → i < length host → get_or host i 0 ≢ 58
no_colon host named i inside e = both_ways (list_all is_name_octet host) (list_all_at is_name_octet host i 0 inside (rw e refl)) (and_parts _ _ named).1

-- a target that names a host and a port is cut between them
pub cut : (target host : List ℕ) (port : ℕ) (r : Option (Bor (List ℕ) × Bor (List ℕ))) → IsSplitOnceResult 58 target r
    → IsAuthority target host port → MatchOption r ⊥ (λ x. (is_registered_name x.0.now ≡ true) × (port_of x.1.now ≡ Some port))
cut target host port None h a = split_after 58 target host a.digits None h (omega arith) a.spelled (no_colon host a.named)
cut target host port (Some x) h a =
    let parts = split_after 58 target host a.digits (Some x) h (omega arith) a.spelled (no_colon host a.named) in
    (rw parts.0 a.named, rw parts.1 a.numbered)

-- what is cut so is a host and a port
pub joined : (target : List ℕ) (x : Bor (List ℕ) × Bor (List ℕ)) (port : ℕ) → IsSplitOnceResult 58 target (Some x)
    → is_registered_name x.0.now ≡ true → port_of x.1.now ≡ Some port → IsAuthority target x.0.now port
joined target x port h named numbered =
    record { digits = x.1.now; spelled = (split_parts 58 target (Some x) h (omega arith)).0; named = named; numbered = numbered }

-- where a target is not cut, or not into a host and a port, it names none
pub uncut : (target host : List ℕ) (port : ℕ) → IsSplitOnceResult 58 target None → IsAuthority target host port → ⊥
uncut target host port h a = cut target host port None h a

pub unnamed : (target host : List ℕ) (port : ℕ) (x : Bor (List ℕ) × Bor (List ℕ)) → IsSplitOnceResult 58 target (Some x)
    → false ≡ is_registered_name x.0.now → IsAuthority target host port → ⊥
unnamed target host port x h other a = both_ways (is_registered_name x.0.now) (sym other) (cut target host port (Some x) h a).0

pub unnumbered : (target host : List ℕ) (port : ℕ) (x : Bor (List ℕ) × Bor (List ℕ)) → IsSplitOnceResult 58 target (Some x)
    → None ≡ port_of x.1.now → IsAuthority target host port → ⊥
unnumbered target host port x h other a =
    let both : None ≡ Some port = other ∙ (cut target host port (Some x) h a).1 in grind arith
