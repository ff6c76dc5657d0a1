-- What is done when a result is handed in.
use Rattle.std.proofs.Common.{◌≡◌, ℕ, ◌+◌, ◌≤◌, List, [], ◌∷◌, Option, Some, None, Bool, true, false, not, ◌&&◌, ◌||◌, cond, count_by, refl, ap, arith}
use Rattle.fetch_life.specs.declared.facts.End.{End}
use Rattle.fetch_life.specs.declared.facts.End.TheVariants as ends
use Rattle.fetch_life.specs.declared.commands.Brought.{Brought}
use Rattle.fetch_life.specs.declared.commands.Brought.TheVariants.{Object, Nothing, Unwanted}
use Rattle.fetch_life.specs.declared.commands.Command.{Command}
use Rattle.fetch_life.specs.declared.commands.Command.TheVariants as does
use Rattle.fetch_life.specs.declared.stages.Flight.{Flight}
use Rattle.fetch_life.specs.declared.stages.Stage.TheVariants as stages
use Rattle.fetch_life.specs.Table.{listed, hands_in, shelf_step, is_own_supplier, is_superseded, is_gone, is_origin, where_so, is_unanswered, is_changed, brought, is_replaced, is_for_all, is_too_large}
use Rattle.fetch_life.specs.Laws.{one, is_ask_no_more, is_note_changed, is_kept_object, is_shelve, is_unshelve, keeps, keeps_or_confirms}
use Rattle.fetch_life.proofs.Measures.{is_telling}
use Rattle.fetch_life.proofs.Walk.{split, both}
use Rattle.fetch_life.proofs.Induction.{count_append}

-- the shelf puts away only what is kept of the origin's
pub shelf_case : (P : Option Command → Type 0) (f : Flight) (end : End) (b : Brought) → P None → (is_kept_object b ≡ true → is_origin f.source ≡ true → P (Some does.Shelve)) → P (Some does.Unshelve) → P (shelf_step f end b)
shelf_case P f end Nothing none put gone = split P (is_gone f end) _ _ (λ _. gone) (λ _. none)
shelf_case P f end Unwanted none put gone = split P (is_gone f end) _ _ (λ _. gone) (λ _. none)
shelf_case P f end (Object o) none put gone =
    split P (is_own_supplier o.supplier) _ _ (λ _. none)
    (λ _. split P (o.is_kept && is_origin f.source) _ _
    (λ e. let h = both o.is_kept (is_origin f.source) e in put h.0 h.1)
    (λ _. split P (o.is_kept || is_superseded f end) _ _ (λ _. gone) (λ _. none)))

-- how often the shelf's step is of this kind
abbrev pub on_shelf : (Command → Bool) → Flight → End → Brought → ℕ
on_shelf is f end b = count_by is (listed (shelf_step f end b) [])

at_least : (b : Bool) → b ≡ true → 1 ≤ one b
at_least true e = omega arith
at_least false e = absurd (cc)

pub shelves_kept : (f : Flight) (end : End) (b : Brought) → on_shelf keeps f end b ≤ one (is_kept_object b)
shelves_kept f end b =
    shelf_case (λ o. count_by keeps (listed o []) ≤ one (is_kept_object b)) f end b (omega arith) (λ k _. at_least (is_kept_object b) k) (omega arith)

pub shelves_confirmed : (f : Flight) (end : End) (b : Brought) → on_shelf keeps_or_confirms f end b ≤ one (is_kept_object b)
shelves_confirmed f end b =
    shelf_case (λ o. count_by keeps_or_confirms (listed o []) ≤ one (is_kept_object b)) f end b (omega arith) (λ k _. at_least (is_kept_object b) k) (omega arith)

pub shelves_of_origin : (f : Flight) (end : End) (b : Brought) → on_shelf is_shelve f end b ≤ one (is_origin f.source)
shelves_of_origin f end b =
    shelf_case (λ o. count_by is_shelve (listed o []) ≤ one (is_origin f.source)) f end b (omega arith) (λ _ k. at_least (is_origin f.source) k) (omega arith)

pub shelves_other : (is : Command → Bool) (f : Flight) (end : End) (b : Brought) → is does.Shelve ≡ false → is does.Unshelve ≡ false → on_shelf is f end b ≡ 0
shelves_other is f end b no_put no_gone =
    shelf_case (λ o. count_by is (listed o []) ≡ 0) f end b refl (λ _ _. ap (λ v. 0 + cond {A = ℕ} v 1 0) no_put) (ap (λ v. 0 + cond {A = ℕ} v 1 0) no_gone)

-- it takes off what is there only where an answer, or one that is too long, tells of something else
pub takes_off : (f : Flight) (o : Bool) (end : End) → on_shelf is_unshelve f end (brought f o end) ≤ one (is_telling end)
unfolding brought
takes_off f o (ends.Whole p) =
    shelf_case (λ c. count_by is_unshelve (listed c []) ≤ 1) f (ends.Whole p) (brought f o (ends.Whole p)) (omega arith) (λ _ _. omega arith) (omega arith)
takes_off f o ends.Refused = omega arith
takes_off f o (ends.Failed x) =
    split (λ b. on_shelf is_unshelve f (ends.Failed x) b ≤ one (is_too_large x.fault)) (is_replaced f o (ends.Failed x)) _ _ (λ _. omega arith)
    (λ _. split (λ c. count_by is_unshelve (listed c []) ≤ one (is_too_large x.fault)) (is_gone f (ends.Failed x)) _ _
    (λ e. at_least (is_too_large x.fault) (both (is_for_all f) (is_too_large x.fault) e).1) (λ _. omega arith))

count_listed : (is : Command → Bool) (o : Option Command) (rest : List Command) → count_by is (listed o rest) ≡ count_by is (listed o []) + count_by is rest
count_listed is None rest = omega arith
count_listed is (Some c) rest = count_append is (c ∷ []) rest

count_where : (is : Command → Bool) (b : Bool) (c : Command) → is c ≡ false → count_by is (listed (where_so b c) []) ≡ 0
count_where is true c e = ap (λ v. 0 + cond {A = ℕ} v 1 0) e
count_where is false c e = refl

counted : (b : Bool) → cond {A = ℕ} b 1 0 ≡ one b
counted true = refl
counted false = refl

pub hands_count : (is : Command → Bool) (f : Flight) (end : End) (b : Brought) → is does.AskNoMore ≡ false → is does.NoteChanged ≡ false → count_by is (hands_in f end b).commands ≡ on_shelf is f end b + one (is (does.HandIn b))
unfolding hands_in
hands_count is f end b not_asked not_noted =
    let last : List Command = does.HandIn b ∷ [] in
    let third : List Command = listed (where_so (is_changed f end) does.NoteChanged) last in
    let second : List Command = listed (where_so (is_unanswered f end) does.AskNoMore) third in
    let a = count_listed is (shelf_step f end b) second in
    let c = count_listed is (where_so (is_unanswered f end) does.AskNoMore) third in
    let d = count_listed is (where_so (is_changed f end) does.NoteChanged) last in
    let e = count_where is (is_unanswered f end) does.AskNoMore not_asked in
    let g = count_where is (is_changed f end) does.NoteChanged not_noted in
    let h : cond {A = ℕ} (is (does.HandIn b)) 1 0 ≡ one (is (does.HandIn b)) = counted (is (does.HandIn b)) in
    omega arith

pub hands_over : (f : Flight) (end : End) (b : Brought) → (hands_in f end b).fetch ≡ record { flight = f; stage = stages.Over }
unfolding hands_in
hands_over f end b = refl

at_most : (o : Option Command) (rest : List Command) → count_by (λ _. true) (listed o rest) ≤ 1 + count_by (λ _. true) rest
at_most None rest = omega arith
at_most (Some c) rest = let e = count_append (λ _. true) (c ∷ []) rest in omega arith

pub hands_four : (f : Flight) (end : End) (b : Brought) → count_by (λ _. true) (hands_in f end b).commands ≤ 4
unfolding hands_in
hands_four f end b =
    let last : List Command = does.HandIn b ∷ [] in
    let third : List Command = listed (where_so (is_changed f end) does.NoteChanged) last in
    let second : List Command = listed (where_so (is_unanswered f end) does.AskNoMore) third in
    let a = at_most (shelf_step f end b) second in
    let c = at_most (where_so (is_unanswered f end) does.AskNoMore) third in
    let d = at_most (where_so (is_changed f end) does.NoteChanged) last in
    omega arith

where_once : (is : Command → Bool) (b : Bool) (c : Command) → is c ≡ true → count_by is (listed (where_so b c) []) ≡ one b
where_once is true c e = ap (λ v. 0 + cond {A = ℕ} v 1 0) e
where_once is false c e = refl

pub hands_asked : (f : Flight) (end : End) (b : Brought) → count_by is_ask_no_more (hands_in f end b).commands ≡ one (is_unanswered f end)
unfolding hands_in
hands_asked f end b =
    let last : List Command = does.HandIn b ∷ [] in
    let third : List Command = listed (where_so (is_changed f end) does.NoteChanged) last in
    let second : List Command = listed (where_so (is_unanswered f end) does.AskNoMore) third in
    let a = count_listed is_ask_no_more (shelf_step f end b) second in
    let c = count_listed is_ask_no_more (where_so (is_unanswered f end) does.AskNoMore) third in
    let d = count_listed is_ask_no_more (where_so (is_changed f end) does.NoteChanged) last in
    let e = where_once is_ask_no_more (is_unanswered f end) does.AskNoMore refl in
    let g = count_where is_ask_no_more (is_changed f end) does.NoteChanged refl in
    let h = shelves_other is_ask_no_more f end b refl refl in
    omega arith

pub hands_noted : (f : Flight) (end : End) (b : Brought) → count_by is_note_changed (hands_in f end b).commands ≡ one (is_changed f end)
unfolding hands_in
hands_noted f end b =
    let last : List Command = does.HandIn b ∷ [] in
    let third : List Command = listed (where_so (is_changed f end) does.NoteChanged) last in
    let second : List Command = listed (where_so (is_unanswered f end) does.AskNoMore) third in
    let a = count_listed is_note_changed (shelf_step f end b) second in
    let c = count_listed is_note_changed (where_so (is_unanswered f end) does.AskNoMore) third in
    let d = count_listed is_note_changed (where_so (is_changed f end) does.NoteChanged) last in
    let e = count_where is_note_changed (is_unanswered f end) does.AskNoMore refl in
    let g = where_once is_note_changed (is_changed f end) does.NoteChanged refl in
    let h = shelves_other is_note_changed f end b refl refl in
    omega arith

less_first : (a b : Bool) → one (a && b) ≤ one a
less_first true true = omega arith
less_first true false = omega arith
less_first false b = omega arith

less_second : (a s b : Bool) → one ((a && not s) && b) ≤ one (not s)
less_second true false true = omega arith
less_second true false false = omega arith
less_second true true b = omega arith
less_second false s b = omega arith

pub unanswered_asks : (f : Flight) (end : End) → one (is_unanswered f end) ≤ one f.is_asking
unanswered_asks f (ends.Whole p) = less_first f.is_asking _
unanswered_asks f ends.Refused = omega arith
unanswered_asks f (ends.Failed x) = less_first f.is_asking _

pub changed_is_private : (f : Flight) (end : End) → one (is_changed f end) ≤ one (not f.is_shared)
changed_is_private f (ends.Whole p) = less_second f.is_asking f.is_shared _
changed_is_private f ends.Refused = omega arith
changed_is_private f (ends.Failed x) = omega arith
