-- Neighbours with the programs in their slots.
use Rattle.std.proofs.Common.{◌≡◌, ◌⊎◌, inl, inr, ℕ, zero, suc, ◌+◌, ◌<◌, ◌≤◌, ◌==◌, nat_lt, List, [], ◌∷◌, ◌++◌, length, map, take, get_or, Option, Some, None, Bool, true, false, ◌&&◌, refl, sym, ap, ◌∙◌, subst, arith}
use Rattle.std.specs.Prelude.{slice_get, slice_set, replicate, IfSome, Result, Ok, Err, IsOk, OnOk, OnErr, IfOk, if◌then◌else◌}
use Rattle.arrayvec.specs.ArrayVec.{ArrayVec}
use Rattle.std.specs.Str.{bytes_eq}
use Rattle.std.proofs.lemmas.Slice.Eq.{bytes_eq-Decides}
use Rattle.std.proofs.lemmas.Bool.Decides.{nat_tests}
use Rattle.std.proofs.lemmas.Option.{slice_get_within, slice_get-get_or}
use Rattle.bpf_check.specs.declared.insn.Insn.{Insn}
use Rattle.node_terms.specs.declared.ends.End.{End}
use Rattle.node_terms.specs.declared.ends.Socket.{Socket}
use Rattle.node_terms.specs.declared.ends.Socket.TheVariants.{Icp, Htcp}
use Rattle.bpf_check.specs.Accepted.{IsAccepted}
use Rattle.filter_slots.specs.declared.slot.Slot.{Slot}
use Rattle.filter_slots.specs.declared.slot.Slot.TheVariants as slots
use Rattle.filter_slots.specs.Datagram.{DatagramFields}
use Rattle.filter_slots.specs.Verdict.{sockets_program, neighbours_program}
use Rattle.filter_slots.specs.Filters.{Filters, AreAccepted, slot, AreNeighbours, NeighbourSlot, empty_slot, program_at, with_program, program_for, is_of, same_socket}
use Rattle.filter_slots.specs.Senders.{seated}

-- slots without programs
pub seated-empty : {A : Type 0} (f : A → Option (List Insn)) (x : A) → f x ≡ None → (pairs : List (Socket × End)) (n : ℕ) → seated pairs (map f (replicate n x)) ≡ map empty_slot pairs
seated-empty f x e [] n = refl
seated-empty f x e (pair ∷ pairs) zero = ap (λ rest. empty_slot pair ∷ rest) (seated-empty f x e pairs zero)
seated-empty f x e (pair ∷ pairs) (suc n) =
    ap (λ program. record { socket = pair.0; end = pair.1; program = program } ∷ seated pairs (map f (replicate n x))) e
    ∙ ap (λ rest. empty_slot pair ∷ rest) (seated-empty f x e pairs n)

pub length-seated : (pairs : List (Socket × End)) (programs : List (Option (List Insn))) → length (seated pairs programs) ≡ length pairs
length-seated [] programs = refl
length-seated (pair ∷ pairs) [] = ap suc (length-seated pairs [])
length-seated (pair ∷ pairs) (program ∷ programs) = ap suc (length-seated pairs programs)

-- the program at an index
pub seated-some : {A : Type 0} (f : A → Option (List Insn)) (pairs : List (Socket × End)) (items : List A) (n : ℕ) (x : A) → length items ≡ length pairs
    → slice_get items n ≡ Some x → program_at (seated pairs (map f items)) n ≡ f x
seated-some f [] [] n x same at = let no : ⊥ = cc in absurd no
seated-some f [] (y ∷ items) n x same at = absurd (omega (arith, same))
seated-some f (pair ∷ pairs) [] n x same at = absurd (omega (arith, same))
seated-some f (pair ∷ pairs) (y ∷ items) zero x same at = let e : y ≡ x = cc in ap f e
seated-some f (pair ∷ pairs) (y ∷ items) (suc n) x same at = seated-some f pairs items n x (omega (arith, same)) at

-- no program past the last index
pub seated-none : (pairs : List (Socket × End)) (programs : List (Option (List Insn))) (n : ℕ) → length pairs ≤ n → program_at (seated pairs programs) n ≡ None
seated-none [] programs n beyond = refl
seated-none (pair ∷ pairs) programs zero beyond = absurd (omega arith)
seated-none (pair ∷ pairs) [] (suc n) beyond = seated-none pairs [] n (omega arith)
seated-none (pair ∷ pairs) (program ∷ programs) (suc n) beyond = seated-none pairs programs n (omega arith)

-- replacing the program at an index
pub seated-with : {A : Type 0} (f : A → Option (List Insn)) (pairs : List (Socket × End)) (items : List A) (n : ℕ) (x : A) → length items ≡ length pairs
    → seated pairs (map f (slice_set items n x)) ≡ with_program (seated pairs (map f items)) n (f x)
seated-with f [] items n x same = refl
seated-with f (pair ∷ pairs) [] n x same = absurd (omega (arith, same))
seated-with f (pair ∷ pairs) (y ∷ items) zero x same = refl
seated-with f (pair ∷ pairs) (y ∷ items) (suc n) x same =
    ap (λ rest. (record { socket = pair.0; end = pair.1; program = f y }) ∷ rest) (seated-with f pairs items n x (omega (arith, same)))

-- replacing a program past the last index changes nothing
pub seated-beyond : (pairs : List (Socket × End)) (programs : List (Option (List Insn))) (n : ℕ) (program : Option (List Insn)) → length pairs ≤ n
    → with_program (seated pairs programs) n program ≡ seated pairs programs
seated-beyond [] programs n program beyond = refl
seated-beyond (pair ∷ pairs) programs zero program beyond = absurd (omega arith)
seated-beyond (pair ∷ pairs) [] (suc n) program beyond =
    ap (λ rest. empty_slot pair ∷ rest) (seated-beyond pairs [] n program (omega arith))
seated-beyond (pair ∷ pairs) (p ∷ programs) (suc n) program beyond =
    ap (λ rest. (record { socket = pair.0; end = pair.1; program = p }) ∷ rest) (seated-beyond pairs programs n program (omega arith))

both_true : (a b : Bool) → a && b ≡ true → (a ≡ true) × (b ≡ true)
both_true true b e = (refl, e)
both_true false b e = let no : ⊥ = cc in absurd no

socket_same : (a b : Socket) → same_socket a b ≡ true → a ≡ b
socket_same Icp Icp e = refl
socket_same Icp Htcp e = let no : ⊥ = cc in absurd no
socket_same Htcp Icp e = let no : ⊥ = cc in absurd no
socket_same Htcp Htcp e = refl

socket_itself : (a : Socket) → same_socket a a ≡ true
socket_itself Icp = refl
socket_itself Htcp = refl

port_same : (a b : ℕ) → (a == b) ≡ true → a ≡ b
port_same a b e = grind (arith, nat_tests)

port_itself : (a : ℕ) → (a == a) ≡ true
port_itself a = grind (arith, nat_tests)

abbrev as_end : List ℕ → ℕ → End
as_end addr port = record { addr = addr; port = port }

abbrev pair_up : Socket → End → Socket × End
pair_up socket end = (socket, end)

-- a slot belongs to its own pair
pub of_pair : (neighbour : NeighbourSlot) (socket : Socket) (from : End) → is_of neighbour socket from ≡ true → ◌≡◌ {A = Socket × End} (neighbour.socket, neighbour.end) (socket, from)
of_pair neighbour socket from e =
    let last = both_true (same_socket neighbour.socket socket && bytes_eq neighbour.end.addr from.addr) (neighbour.end.port == from.port) e in
    let first = both_true (same_socket neighbour.socket socket) (bytes_eq neighbour.end.addr from.addr) last.0 in
    let a = socket_same neighbour.socket socket first.0 in
    let b = (bytes_eq-Decides neighbour.end.addr from.addr).0 first.1 in
    let c = port_same neighbour.end.port from.port last.1 in
    let same : neighbour.end ≡ from = ap (λ (xs : List ℕ). as_end xs neighbour.end.port) b ∙ ap (λ (n : ℕ). as_end from.addr n) c in
    ap (λ (s : Socket). pair_up s neighbour.end) a ∙ ap (λ (e : End). pair_up socket e) same

pub of_itself : (neighbour : NeighbourSlot) → is_of neighbour neighbour.socket neighbour.end ≡ true
of_itself neighbour =
    rw (socket_itself neighbour.socket, (bytes_eq-Decides neighbour.end.addr neighbour.end.addr).1 refl, port_itself neighbour.end.port) refl

-- a slot does not belong to another pair
pub of_other : (neighbour : NeighbourSlot) (socket : Socket) (from : End) → (◌≡◌ {A = Socket × End} (neighbour.socket, neighbour.end) (socket, from) → ⊥) → is_of neighbour socket from ≡ false
of_other neighbour socket from differs =
    let cases : (is_of neighbour socket from ≡ true) ⊎ (is_of neighbour socket from ≡ false) = grind arith in
    elim cases [ inl e ↦ absurd (differs (of_pair neighbour socket from e)) | inr e ↦ e ]

-- a stranger has no slot
pub seated-absent : (pairs : List (Socket × End)) (programs : List (Option (List Insn))) (socket : Socket) (from : End)
    → ((n : ℕ) → slice_get pairs n ≡ Some (socket, from) → ⊥) → program_for (seated pairs programs) socket from ≡ None
seated-absent [] programs socket from absent = refl
seated-absent (pair ∷ pairs) [] socket from absent =
    rw (of_other (empty_slot pair) socket from (λ e. absent zero (ap Some e))) (seated-absent pairs [] socket from (λ n. absent (suc n)))
seated-absent (pair ∷ pairs) (program ∷ programs) socket from absent =
    rw (of_other (record { socket = pair.0; end = pair.1; program = program }) socket from (λ e. absent zero (ap Some e))) (seated-absent pairs programs socket from (λ n. absent (suc n)))

-- the program for a pair that stands at one index only is the program at that index
pub seated-there : (pairs : List (Socket × End)) (programs : List (Option (List Insn))) (socket : Socket) (from : End) (n : ℕ)
    → slice_get pairs n ≡ Some (socket, from) → ((m : ℕ) → slice_get pairs m ≡ Some (socket, from) → m ≡ n)
    → program_for (seated pairs programs) socket from ≡ program_at (seated pairs programs) n
seated-there [] programs socket from n at only = let no : ⊥ = cc in absurd no
seated-there (pair ∷ pairs) [] socket from zero at only =
    let e : pair ≡ (socket, from) = cc in
    rw (ap (λ (p : Socket × End). is_of (empty_slot pair) p.0 p.1) (sym e) ∙ of_itself (empty_slot pair)) refl
seated-there (pair ∷ pairs) (program ∷ programs) socket from zero at only =
    let e : pair ≡ (socket, from) = cc in
    let here : NeighbourSlot = record { socket = pair.0; end = pair.1; program = program } in
    rw (ap (λ (p : Socket × End). is_of here p.0 p.1) (sym e) ∙ of_itself here) refl
seated-there (pair ∷ pairs) [] socket from (suc n) at only =
    rw (of_other (empty_slot pair) socket from (λ e. let no = only zero (ap Some e) in omega arith))
    (seated-there pairs [] socket from n at (λ m there. let e = only (suc m) there in omega arith))
seated-there (pair ∷ pairs) (program ∷ programs) socket from (suc n) at only =
    rw (of_other (record { socket = pair.0; end = pair.1; program = program }) socket from (λ e. let no = only zero (ap Some e) in omega arith))
    (seated-there pairs programs socket from n at (λ m there. let e = only (suc m) there in omega arith))

-- a prefix of a list, and the element after it
front_at : {A : Type 0} (xs : List A) (k m : ℕ) (x p : A) → slice_get xs k ≡ Some x → slice_get (take k xs ++ x ∷ []) m ≡ Some p → slice_get xs m ≡ Some p
front_at [] k m x p at there = let no : ⊥ = cc in absurd no
front_at (y ∷ xs) zero zero x p at there = at ∙ there
front_at (y ∷ xs) zero (suc m) x p at there = let no : ⊥ = cc in absurd no
front_at (y ∷ xs) (suc k) zero x p at there = there
front_at (y ∷ xs) (suc k) (suc m) x p at there = front_at xs k m x p at there

front_few : {A : Type 0} (xs : List A) (k : ℕ) (x : A) → slice_get xs k ≡ Some x → length (take k xs ++ x ∷ []) ≤ length xs
front_few [] k x at = let no : ⊥ = cc in absurd no
front_few (y ∷ xs) zero x at = omega arith
front_few (y ∷ xs) (suc k) x at = let rest = front_few xs k x at in omega arith

-- a prefix of valid neighbours is valid
pub neighbours-front : (pairs : List (Socket × End)) (k : ℕ) (pair : Socket × End) → slice_get pairs k ≡ Some pair → AreNeighbours pairs → AreNeighbours (take k pairs ++ pair ∷ [])
neighbours-front pairs k pair at all = record {
  few = (let few = all.few in let fewer = front_few pairs k pair at in omega arith);
  apart = λ m n p at_m at_n. all.apart m n p (front_at pairs k m pair p at at_m) (front_at pairs k n pair p at at_n);
}

-- whether there is a slot
pub has-there : {A : Type 0} (f : A → Option (List Insn)) (pairs : List (Socket × End)) (items : List A) (n : ℕ) → length items ≡ length pairs
    → n < length items → nat_lt n (length (seated pairs (map f items))) ≡ true
has-there f pairs items n same lt = rw (length-seated pairs (map f items)) (grind (arith, nat_tests))

pub has-back : {A : Type 0} (f : A → Option (List Insn)) (pairs : List (Socket × End)) (items : List A) (n : ℕ) → length items ≡ length pairs
    → nat_lt n (length (seated pairs (map f items))) ≡ true → n < length items
has-back f pairs items n same has = let h = rw (length-seated pairs (map f items)) at has in grind (arith, nat_tests)

-- replacing a program; nothing changes if the slot does not exist
pub with-after : {A B E : Type 0} (f : A → Option (List Insn)) (pairs : List (Socket × End)) (old new : ArrayVec A) (n : ℕ) (x : A) (r : Result B E)
    → length old.items ≡ length pairs → (n < length old.items → IsOk r) → OnOk r (new.items ≡ slice_set old.items n x) → OnErr r (new ≡ old)
    → seated pairs (map f new.items) ≡ with_program (seated pairs (map f old.items)) n (f x)
with-after f pairs old new n x (Ok y) same there set kept = rw set (seated-with f pairs old.items n x same)
with-after {A = A} f pairs old new n x (Err y) same there set kept =
    let cases : (n < length old.items) ⊎ (length pairs ≤ n) = grind arith in
    elim cases [
      | inl lt ↦ (let no = there lt in let not : ⊥ = cc in absurd not)
      | inr beyond ↦ ap (λ (v : ArrayVec A). seated pairs (map f v.items)) kept ∙ sym (seated-beyond pairs (map f old.items) n (f x) beyond)
    ]

-- the previous program of a slot
pub with-before : {A E : Type 0} (f : A → Option (List Insn)) (pairs : List (Socket × End)) (items : List A) (n : ℕ) (r : Result A E)
    → length items ≡ length pairs → IfOk r (λ before. slice_get items n ≡ Some before)
    → IfOk r (λ before. f before ≡ program_at (seated pairs (map f items)) n)
with-before f pairs items n (Ok y) same at = sym (seated-some f pairs items n y same at)
with-before f pairs items n (Err y) same at = tt

-- each program in a slot is accepted
pub seated-accepted : {A : Type 0} (f : A → Option (List Insn)) (pairs : List (Socket × End)) (items : List A) (n : ℕ) → length items ≡ length pairs
    → ((k : ℕ) (item : A) → slice_get items k ≡ Some item → IfSome (f item) IsAccepted)
    → IfSome (program_at (seated pairs (map f items)) n) IsAccepted
seated-accepted f [] items n same each = tt
seated-accepted f (pair ∷ pairs) [] n same each = absurd (omega (arith, same))
seated-accepted f (pair ∷ pairs) (y ∷ items) zero same each = each zero y refl
seated-accepted f (pair ∷ pairs) (y ∷ items) (suc n) same each =
    seated-accepted f pairs items n (omega (arith, same)) (λ k. each (suc k))

pub all-accepted : {A : Type 0} (f : A → Option (List Insn)) (icp htcp : Option (List Insn)) (pairs : List (Socket × End)) (items : List A) → length items ≡ length pairs
    → IfSome icp IsAccepted → IfSome htcp IsAccepted → ((k : ℕ) (item : A) → slice_get items k ≡ Some item → IfSome (f item) IsAccepted)
    → (place : Slot) → IfSome (slot (record { icp = icp; htcp = htcp; neighbours = seated pairs (map f items) }) place) IsAccepted
all-accepted f icp htcp pairs items same a b each (slots.Socket Icp) = a
all-accepted f icp htcp pairs items same a b each (slots.Socket Htcp) = b
all-accepted f icp htcp pairs items same a b each (slots.Neighbour n) = seated-accepted f pairs items n same each

accepted_if : (b : Bool) (here there : Option (List Insn)) → IfSome here IsAccepted → IfSome there IsAccepted → IfSome (if b then here else there) IsAccepted
accepted_if true here there x y = x
accepted_if false here there x y = y

-- so is the program for each sender
pub for-accepted : (neighbours : List NeighbourSlot) (socket : Socket) (from : End) → ((n : ℕ) → IfSome (program_at neighbours n) IsAccepted)
    → IfSome (program_for neighbours socket from) IsAccepted
for-accepted [] socket from each = tt
for-accepted (first ∷ others) socket from each =
    accepted_if (is_of first socket from) first.program (program_for others socket from) (each zero) (for-accepted others socket from (λ n. each (suc n)))

some-accepted : (program : Option (List Insn)) (p : List Insn) → program ≡ Some p → IfSome program IsAccepted → IsAccepted p
some-accepted program p is fine = rw is at fine

-- the programs that judge a datagram are accepted
pub first-accepted : (filters : Filters) (d : DatagramFields) (p : List Insn) → AreAccepted filters → sockets_program filters d ≡ Some p → IsAccepted p
first-accepted filters d p all is = some-accepted (sockets_program filters d) p is (all (slots.Socket d.socket))

pub second-accepted : (filters : Filters) (d : DatagramFields) (p : List Insn) → AreAccepted filters → neighbours_program filters d ≡ Some p → IsAccepted p
second-accepted filters d p all is =
    some-accepted (neighbours_program filters d) p is (for-accepted filters.neighbours d.socket d.from (λ n. all (slots.Neighbour n)))
