-- From each turn to each run.
use Rattle.std.proofs.Common.{◌≡◌, ℕ, ◌+◌, ◌*◌, ◌≤◌, List, [], ◌∷◌, ◌++◌, count_by, Bool, true, false, not, cond, refl, arith, ap, ◌∙◌}
use Rattle.std.proofs.lemmas.Grind.{common_steps}
use Rattle.std.specs.List.{AllByRecursion}
use Rattle.request_life.specs.declared.commands.Command.{Command}
use Rattle.request_life.specs.declared.events.Event.{Event}
use Rattle.request_life.specs.declared.stages.Life.{Life}
use Rattle.request_life.specs.Runs.{turn_of, after, orders, moves_where}
use Rattle.request_life.specs.Laws.{one}

pub count_append : {A : Type 0} (p : A → Bool) (xs ys : List A) → count_by p (xs ++ ys) ≡ count_by p xs + count_by p ys
count_append p [] ys = omega arith
count_append p (x ∷ xs) ys = let e = count_append p xs ys in grind (arith, common_steps)

-- what is done adds up to what the stage says
pub adds_up : (is : Command → Bool) (so_far : Life → ℕ) → ((life : Life) (event : Event) → count_by is (turn_of life event).commands + so_far life ≡ so_far (turn_of life event).life) → (life : Life) (events : List Event) → count_by is (orders life events) + so_far life ≡ so_far (after life events)
adds_up is so_far step life [] = omega arith
adds_up is so_far step life (event ∷ rest) =
    let e = adds_up is so_far step (turn_of life event).life rest in
    let a = step life event in
    let b = count_append is (turn_of life event).commands (orders (turn_of life event).life rest) in
    omega arith

-- what is done is taken from what may be
pub is_used_up : (is : Command → Bool) (left : Life → ℕ) → ((life : Life) (event : Event) → count_by is (turn_of life event).commands + left (turn_of life event).life ≤ left life) → (life : Life) (events : List Event) → count_by is (orders life events) + left (after life events) ≤ left life
is_used_up is left step life [] = omega arith
is_used_up is left step life (event ∷ rest) =
    let e = is_used_up is left step (turn_of life event).life rest in
    let a = step life event in
    let b = count_append is (turn_of life event).commands (orders (turn_of life event).life rest) in
    omega arith

-- moves are taken from what may be
pub runs_down : (count : Life → Event → ℕ) (left : Life → ℕ) → ((life : Life) (event : Event) → count life event + left (turn_of life event).life ≤ left life) → (life : Life) (events : List Event) → moves_where count life events + left (after life events) ≤ left life
runs_down count left step life [] = omega arith
runs_down count left step life (event ∷ rest) =
    let e = runs_down count left step (turn_of life event).life rest in
    let a = step life event in
    omega arith

-- what comes is done, goes otherwise, or is owed
pub balances : (gain loss : Life → Event → ℕ) (is : Command → Bool) (owed : Life → ℕ) → ((life : Life) (event : Event) → gain life event + owed life ≡ count_by is (turn_of life event).commands + loss life event + owed (turn_of life event).life) → (life : Life) (events : List Event) → moves_where gain life events + owed life ≡ count_by is (orders life events) + moves_where loss life events + owed (after life events)
balances gain loss is owed step life [] = omega arith
balances gain loss is owed step life (event ∷ rest) =
    let e = balances gain loss is owed step (turn_of life event).life rest in
    let a = step life event in
    let b = count_append is (turn_of life event).commands (orders (turn_of life event).life rest) in
    omega arith

-- where no event gives cause, nothing is done
pub is_never_done : (is : Command → Bool) (harm : Life → ℕ) (fits : Event → Bool) → ((life : Life) (event : Event) → count_by is (turn_of life event).commands + harm (turn_of life event).life ≤ 4 * (harm life + one (not (fits event)))) → (life : Life) (events : List Event) → harm life ≡ 0 → AllByRecursion (λ event. fits event ≡ true) events → count_by is (orders life events) ≡ 0
is_never_done is harm fits step life [] none all = refl
is_never_done is harm fits step life (event ∷ rest) none all =
    let a = step life event in
    let f : one (not (fits event)) ≡ 0 = ap (λ b. one (not b)) all.0 in
    let e = is_never_done is harm fits step (turn_of life event).life rest (omega arith) all.1 in
    let b = count_append is (turn_of life event).commands (orders (turn_of life event).life rest) in
    omega arith

counted : (b : Bool) → cond b 1 0 ≡ one b
counted true = refl
counted false = refl

pub one_more : {A : Type 0} (p : A → Bool) (x : A) (xs : List A) → count_by p (x ∷ xs) ≡ one (p x) + count_by p xs
one_more p x xs =
    let a : count_by p (x ∷ xs) ≡ count_by p (x ∷ []) + count_by p xs = count_append p (x ∷ []) xs in
    let b : cond (p x) 1 0 ≡ one (p x) = counted (p x) in
    let c : 0 + cond (p x) 1 0 ≡ cond (p x) 1 0 = omega arith in
    a ∙ ap (λ n. n + count_by p xs) (c ∙ b)

-- a stage is come to only by these events
pub is_come_to : (at : Life → ℕ) (by : Event → Bool) → ((life : Life) (event : Event) → at (turn_of life event).life ≤ at life + one (by event)) → (life : Life) (events : List Event) → at (after life events) ≤ at life + count_by by events
is_come_to at by step life [] = omega arith
is_come_to at by step life (event ∷ rest) =
    let e = is_come_to at by step (turn_of life event).life rest in
    let a = step life event in
    let c = one_more by event rest in
    omega arith

-- what is done is taken from what may be, to which some events add
pub is_filled_up : (is : Command → Bool) (left : Life → ℕ) (by : Event → Bool) → ((life : Life) (event : Event) → count_by is (turn_of life event).commands + left (turn_of life event).life ≤ left life + one (by event)) → (life : Life) (events : List Event) → count_by is (orders life events) + left (after life events) ≤ left life + count_by by events
is_filled_up is left by step life [] = omega arith
is_filled_up is left by step life (event ∷ rest) =
    let e = is_filled_up is left by step (turn_of life event).life rest in
    let a = step life event in
    let b = count_append is (turn_of life event).commands (orders (turn_of life event).life rest) in
    let c = one_more by event rest in
    omega arith
