-- A key that is found has a name of at most 255 octets.
use Rattle.std.proofs.Common.{◌≡◌, ◌≤◌, ℕ, Bool, true, false, List, [], ◌∷◌, length, Option, Some, None, IsSome, refl, subst, arith, nat_le, ◌&&◌}
use Rattle.std.specs.Prelude.{find, option_map}
use Rattle.std.specs.List.{list_all}
use Rattle.std.specs.Str.{bytes_eq}
use Rattle.std.specs.Cmp.Lexicographic.{bytes_decides}
use Rattle.std.proofs.lemmas.Bool.Decides.{nat_tests}
use Rattle.neighbours.specs.declared.key.Key.{Key}
use Rattle.neighbours.specs.Faults.{is_name, are_named, has_double_name, knows}
use Rattle.neighbours.specs.declared.neighbour.Neighbour.{Neighbour}
use Rattle.neighbours.specs.Rows.{secret_of}

same_octets : (xs ys : List ℕ) → bytes_eq xs ys ≡ true → xs ≡ ys
same_octets xs ys h = (bytes_decides xs ys).0 h

short_name : (xs ys : List ℕ) → is_name xs ≡ true → bytes_eq xs ys ≡ true → length ys ≤ 255
short_name xs ys named same = let e = same_octets xs ys same in grind (arith, nat_tests)

head_named : (key : Key) (keys : List Key) → list_all (λ (k : Key). is_name k.name) (key ∷ keys) ≡ true → is_name key.name ≡ true
head_named key keys h = grind (arith, nat_tests)

tail_named : (key : Key) (keys : List Key) → list_all (λ (k : Key). is_name k.name) (key ∷ keys) ≡ true → list_all (λ (k : Key). is_name k.name) keys ≡ true
tail_named key keys h = grind (arith, nat_tests)

found_later : (name : List ℕ) (key : Key) (keys : List Key) → bytes_eq key.name name ≡ false → IsSome (secret_of (key ∷ keys) name) → IsSome (secret_of keys name)
found_later name key keys t = rw t (λ found. found)

pub found-named : (name : List ℕ) (keys : List Key) → list_all (λ (key : Key). is_name key.name) keys ≡ true → IsSome (secret_of keys name) → length name ≤ 255
found-named name [] all found = absurd cc
found-named name (key ∷ keys) all found =
    elim (bytes_eq key.name name) as (λ v. bytes_eq key.name name ≡ v → length name ≤ 255) [
      | true ↦ λ t. short_name key.name name (head_named key keys all) t
      | false ↦ λ t. found-named name keys (tail_named key keys all) (found_later name key keys t found)
    ] refl

pub all-named : (neighbours : List Neighbour) (keys : List Key) → are_named neighbours keys ≡ true → list_all (λ (key : Key). is_name key.name) keys ≡ true
all-named neighbours keys h = grind (arith, nat_tests)

pub copied-some : {A : Type 0} (o : Option A) (p : Option (List ℕ)) (f : A → List ℕ) → option_map f o ≡ p → IsSome o → IsSome p
copied-some None p f e found = absurd cc
copied-some (Some x) p f e found = subst (λ q. IsSome q) e refl
