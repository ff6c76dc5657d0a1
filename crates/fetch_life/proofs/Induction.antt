-- From each turn to each run.
use Rattle.std.proofs.Common.{◌≡◌, ℕ, ◌+◌, ◌*◌, ◌≤◌, List, [], ◌∷◌, ◌++◌, count_by, Bool, true, false, not, cond, refl, arith, ap, ◌∙◌}
use Rattle.std.proofs.lemmas.Grind.{common_steps}
use Rattle.std.specs.List.{AllByRecursion}
use Rattle.fetch_life.specs.declared.commands.Command.{Command}
use Rattle.fetch_life.specs.declared.events.Event.{Event}
use Rattle.fetch_life.specs.declared.stages.Fetch.{Fetch}
use Rattle.fetch_life.specs.Runs.{turn_of, after, orders}
use Rattle.fetch_life.specs.Laws.{one, steps, is_awaited, told, is_told}

pub count_append : {A : Type 0} (p : A → Bool) (xs ys : List A) → count_by p (xs ++ ys) ≡ count_by p xs + count_by p ys
count_append p [] ys = omega arith
count_append p (x ∷ xs) ys = let e = count_append p xs ys in grind (arith, common_steps)

-- what is done adds up to what the stage says
pub adds_up : (is : Command → Bool) (so_far : Fetch → ℕ) → ((life : Fetch) (event : Event) → count_by is (turn_of life event).commands + so_far life ≡ so_far (turn_of life event).fetch) → (life : Fetch) (events : List Event) → count_by is (orders life events) + so_far life ≡ so_far (after life events)
adds_up is so_far step life [] = omega arith
adds_up is so_far step life (event ∷ rest) =
    let e = adds_up is so_far step (turn_of life event).fetch rest in
    let a = step life event in
    let b = count_append is (turn_of life event).commands (orders (turn_of life event).fetch rest) in
    omega arith

-- what is done is taken from what may be
pub is_used_up : (is : Command → Bool) (left : Fetch → ℕ) → ((life : Fetch) (event : Event) → count_by is (turn_of life event).commands + left (turn_of life event).fetch ≤ left life) → (life : Fetch) (events : List Event) → count_by is (orders life events) + left (after life events) ≤ left life
is_used_up is left step life [] = omega arith
is_used_up is left step life (event ∷ rest) =
    let e = is_used_up is left step (turn_of life event).fetch rest in
    let a = step life event in
    let b = count_append is (turn_of life event).commands (orders (turn_of life event).fetch rest) in
    omega arith

-- where no event gives cause, nothing is done
pub is_never_done : (is : Command → Bool) (harm : Fetch → ℕ) (fits : Event → Bool) → ((life : Fetch) (event : Event) → count_by is (turn_of life event).commands + harm (turn_of life event).fetch ≤ 4 * (harm life + one (not (fits event)))) → (life : Fetch) (events : List Event) → harm life ≡ 0 → AllByRecursion (λ event. fits event ≡ true) events → count_by is (orders life events) ≡ 0
is_never_done is harm fits step life [] none all = refl
is_never_done is harm fits step life (event ∷ rest) none all =
    let a = step life event in
    let f : one (not (fits event)) ≡ 0 = ap (λ b. one (not b)) all.0 in
    let e = is_never_done is harm fits step (turn_of life event).fetch rest (omega arith) all.1 in
    let b = count_append is (turn_of life event).commands (orders (turn_of life event).fetch rest) in
    omega arith

counted : (b : Bool) → cond b 1 0 ≡ one b
counted true = refl
counted false = refl

one_more : {A : Type 0} (p : A → Bool) (x : A) (xs : List A) → count_by p (x ∷ xs) ≡ one (p x) + count_by p xs
one_more p x xs =
    let a : count_by p (x ∷ xs) ≡ count_by p (x ∷ []) + count_by p xs = count_append p (x ∷ []) xs in
    let b : cond (p x) 1 0 ≡ one (p x) = counted (p x) in
    let c : 0 + cond (p x) 1 0 ≡ cond (p x) 1 0 = omega arith in
    a ∙ ap (λ n. n + count_by p xs) (c ∙ b)

-- what is done is taken from what may be, to which some events add
pub is_filled_up : (is : Command → Bool) (left : Fetch → ℕ) (by : Event → Bool) → ((life : Fetch) (event : Event) → count_by is (turn_of life event).commands + left (turn_of life event).fetch ≤ left life + 21 * one (by event)) → (life : Fetch) (events : List Event) → count_by is (orders life events) + left (after life events) ≤ left life + 21 * count_by by events
is_filled_up is left by step life [] = omega arith
is_filled_up is left by step life (event ∷ rest) =
    let e = is_filled_up is left by step (turn_of life event).fetch rest in
    let a = step life event in
    let b = count_append is (turn_of life event).commands (orders (turn_of life event).fetch rest) in
    let c = one_more by event rest in
    omega arith

-- steps are taken from what may be, to which some events add
pub runs_down : (left : Fetch → ℕ) (by : Event → Bool) → ((life : Fetch) (event : Event) → one (is_awaited life event) + left (turn_of life event).fetch ≤ left life + 12 * one (by event)) → (life : Fetch) (events : List Event) → steps life events + left (after life events) ≤ left life + 12 * count_by by events
runs_down left by step life [] = omega arith
runs_down left by step life (event ∷ rest) =
    let e = runs_down left by step (turn_of life event).fetch rest in
    let a = step life event in
    let c = one_more by event rest in
    omega arith

-- what is asked is told, or is awaited
pub balances : (is : Command → Bool) (owed : Fetch → ℕ) → ((life : Fetch) (event : Event) → count_by is (turn_of life event).commands + owed life ≡ one (is_told life event) + owed (turn_of life event).fetch) → (life : Fetch) (events : List Event) → count_by is (orders life events) + owed life ≡ told life events + owed (after life events)
balances is owed step life [] = omega arith
balances is owed step life (event ∷ rest) =
    let e = balances is owed step (turn_of life event).fetch rest in
    let a = step life event in
    let b = count_append is (turn_of life event).commands (orders (turn_of life event).fetch rest) in
    omega arith

-- what is done is taken from what may be, to which some events add one
pub is_fed : (is : Command → Bool) (left : Fetch → ℕ) (by : Event → Bool) → ((life : Fetch) (event : Event) → count_by is (turn_of life event).commands + left (turn_of life event).fetch ≤ left life + one (by event)) → (life : Fetch) (events : List Event) → count_by is (orders life events) + left (after life events) ≤ left life + count_by by events
is_fed is left by step life [] = omega arith
is_fed is left by step life (event ∷ rest) =
    let e = is_fed is left by step (turn_of life event).fetch rest in
    let a = step life event in
    let b = count_append is (turn_of life event).commands (orders (turn_of life event).fetch rest) in
    let c = one_more by event rest in
    omega arith

-- or three
pub is_fed_thrice : (is : Command → Bool) (left : Fetch → ℕ) (by : Event → Bool) → ((life : Fetch) (event : Event) → count_by is (turn_of life event).commands + left (turn_of life event).fetch ≤ left life + 3 * one (by event)) → (life : Fetch) (events : List Event) → count_by is (orders life events) + left (after life events) ≤ left life + 3 * count_by by events
is_fed_thrice is left by step life [] = omega arith
is_fed_thrice is left by step life (event ∷ rest) =
    let e = is_fed_thrice is left by step (turn_of life event).fetch rest in
    let a = step life event in
    let b = count_append is (turn_of life event).commands (orders (turn_of life event).fetch rest) in
    let c = one_more by event rest in
    omega arith

-- one thing is done no more often than another
pub is_matched : (is by : Command → Bool) (due : Fetch → ℕ) → ((life : Fetch) (event : Event) → count_by is (turn_of life event).commands + due (turn_of life event).fetch ≤ due life + count_by by (turn_of life event).commands) → (life : Fetch) (events : List Event) → count_by is (orders life events) + due (after life events) ≤ due life + count_by by (orders life events)
is_matched is by due step life [] = omega arith
is_matched is by due step life (event ∷ rest) =
    let e = is_matched is by due step (turn_of life event).fetch rest in
    let a = step life event in
    let b = count_append is (turn_of life event).commands (orders (turn_of life event).fetch rest) in
    let c = count_append by (turn_of life event).commands (orders (turn_of life event).fetch rest) in
    omega arith
