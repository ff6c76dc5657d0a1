-- What is done where it may be, and what is handed in: by the table itself.
use Rattle.std.proofs.Common.{◌≡◌, ◌==◌, ℕ, ◌+◌, List, [], ◌∷◌, ◌++◌, Option, Some, None, Bool, true, false, not, ◌&&◌, ◌||◌, cond, arith, count_by, refl, sym, ◌∙◌, ap, subst}
use Rattle.std.specs.List.{AllByRecursion}
use Rattle.fetch_life.specs.declared.facts.Addresses.{Addresses}
use Rattle.fetch_life.specs.declared.facts.Failure.{Failure}
use Rattle.fetch_life.specs.declared.facts.Page.{Page}
use Rattle.fetch_life.specs.declared.facts.End.{End}
use Rattle.fetch_life.specs.declared.facts.End.TheVariants as ends
use Rattle.fetch_life.specs.declared.commands.Brought.{Brought}
use Rattle.fetch_life.specs.declared.commands.Brought.TheVariants.{Nothing}
use Rattle.fetch_life.specs.declared.commands.Supplier.{Supplier}
use Rattle.fetch_life.specs.declared.commands.Supplier.TheVariants as suppliers
use Rattle.fetch_life.specs.declared.commands.Command.{Command}
use Rattle.fetch_life.specs.declared.commands.Command.TheVariants as does
use Rattle.fetch_life.specs.declared.commands.Which.{Which}
use Rattle.fetch_life.specs.declared.commands.Which.TheVariants.{First, Other}
use Rattle.fetch_life.specs.declared.events.Event.{Event}
use Rattle.fetch_life.specs.declared.events.Event.TheVariants as events
use Rattle.fetch_life.specs.declared.stages.Fetch.{Fetch}
use Rattle.fetch_life.specs.declared.stages.Flight.{Flight}
use Rattle.fetch_life.specs.declared.stages.Exchange.{Exchange}
use Rattle.fetch_life.specs.declared.stages.Landing.{Landing}
use Rattle.fetch_life.specs.declared.stages.Reach.{Reach}
use Rattle.fetch_life.specs.declared.stages.Stage.{Stage}
use Rattle.fetch_life.specs.declared.stages.Stage.TheVariants as stages
use Rattle.fetch_life.specs.Table.{Turn, turn, listed, lands, hands_in, brought, brings, stands_for, object, is_kept, is_replaced, is_for_all, is_origin, is_error, is_loss, is_fragile, is_lost, is_stale, locked_at, supplier_of, where_so, is_unanswered, is_changed, may_first, may_other, opposite, is_connect}
use Rattle.fetch_life.specs.Rows.{Row}
use Rattle.fetch_life.specs.Rows as rows
use Rattle.fetch_life.specs.Runs.{unordered, fetch_at, turn_of, after, orders}
use Rattle.fetch_life.specs.Laws.{one, made, made_by, FitsMade, hands, is_object_one, is_kept_object, is_stale_one, is_confirmed_one, comes_from, is_landing, is_outage, goes_to, is_either, is_beside, has_way, is_from_origin, is_unreached}
use Rattle.fetch_life.proofs.Walk.{split, turn_row}
use Rattle.fetch_life.proofs.Induction.{count_append}
use Rattle.fetch_life.proofs.Handing.{shelf_case, hands_count, hands_over, shelves_other}
use Rattle.fetch_life.proofs.Bringing.{same_outage}
use Rattle.fetch_life.proofs.Steps.{same_origin}
use Rattle.fetch_life.proofs.Causes.{same_unreached}
use Rattle.fetch_life.proofs.Whole.{on_true, on_false, over_is_quiet}

-- WHAT IS HANDED IN IS WHAT WAS MADE LAST

-- what was made last is what a fetch that has landed brings
abbrev pub AgreesAt : Option Brought → Flight → Stage → Type 0
AgreesAt last f (stages.Landing l) = last ≡ Some (brought f l.is_remade l.end)
AgreesAt last f stage = Unit {0}

keeps_made : (f : Flight) (stage : Stage) (event : Event) (t : Turn) (last : Option Brought) → Row f stage event t → AgreesAt last f stage → AgreesAt (made last t.commands) t.fetch.flight t.fetch.stage
keeps_made f stage event t last (rows.Idle g s e idle) agrees = agrees
keeps_made f stage event t last (rows.Refuses g a first other) agrees = refl
keeps_made f stage event t last (rows.Ends g p e) agrees = refl
keeps_made f stage event t last (rows.Fails_seeking g x) agrees = refl
keeps_made f stage event t last (rows.Fails_connecting g x r) agrees = refl
keeps_made f stage event t last (rows.Fails_exchanging g x e) agrees = refl
keeps_made f stage event t last (rows.Remakes g l first) agrees = refl
keeps_made f stage event t last (rows.Hands_in g o l) agrees =
    let b = brought g (o || l.is_remade) l.end in
    subst (λ (x : Fetch). AgreesAt (made last (hands_in g l.end b).commands) x.flight x.stage) (sym (hands_over g l.end b)) tt
keeps_made f stage event t last row agrees = tt

made_append : (last : Option Brought) (xs ys : List Command) → made last (xs ++ ys) ≡ made (made last xs) ys
made_append last [] ys = refl
made_append last (x ∷ xs) ys = made_append (made_by last x) xs ys

agrees_after : (last : Option Brought) (fetch : Fetch) (events : List Event) → AgreesAt last fetch.flight fetch.stage → AgreesAt (made last (orders fetch events)) (after fetch events).flight (after fetch events).stage
agrees_after last fetch [] agrees = agrees
agrees_after last fetch (event ∷ rest) agrees =
    let next = turn_of fetch event in
    let a = keeps_made fetch.flight fetch.stage event _ last (turn_row fetch.flight fetch.stage event) agrees in
    let b = agrees_after (made last next.commands) next.fetch rest a in
    subst (λ m. AgreesAt m (after next.fetch rest).flight (after next.fetch rest).stage) (sym (made_append last next.commands (orders next.fetch rest))) b

-- what is not kept and was not there before is the same after a change
both_split : (b : Bool) (x y v w : Brought) → (is_fragile x ≡ false → v ≡ x) → (is_fragile y ≡ false → w ≡ y) → is_fragile (cond b x y) ≡ false → cond b v w ≡ cond b x y
both_split true x y v w g h e = g e
both_split false x y v w g h e = h e

never_kept : (s m h : Bool) → (s && (m && (not true && not h))) ≡ false
never_kept false m h = refl
never_kept true false h = refl
never_kept true true h = refl

or_false : (a b : Bool) → (a || b) ≡ false → a ≡ false
or_false false b e = refl
or_false true b e = absurd (cc)

object_same : (f : Flight) (p : Page) (s : Supplier) → is_fragile (object (is_kept f false p) s) ≡ false → object (is_kept f true p) s ≡ object (is_kept f false p) s
object_same f p s e =
    let a = or_false (is_kept f false p) (is_stale s) e in
    ap (λ k. object k s) (never_kept f.is_shared p.may_keep p.hides_rules ∙ sym a)

and_kept : (a b s : Bool) → a ≡ false → (a && b) ≡ false
and_kept false b s e = refl
and_kept true b s e = absurd (cc)

itself_same : (f : Flight) (p : Page) → is_fragile (object (is_kept f false p && (p.status == 200)) (supplier_of f.source)) ≡ false → object (is_kept f true p && (p.status == 200)) (supplier_of f.source) ≡ object (is_kept f false p && (p.status == 200)) (supplier_of f.source)
itself_same f p e =
    let a = or_false (is_kept f false p && (p.status == 200)) (is_stale (supplier_of f.source)) e in
    let b = and_kept (is_kept f true p) (p.status == 200) true (never_kept f.is_shared p.may_keep p.hides_rules) in
    ap (λ k. object k (supplier_of f.source)) (b ∙ sym a)

stands_same : (f : Flight) (p : Page) → is_fragile (stands_for f false p) ≡ false → stands_for f true p ≡ stands_for f false p
stands_same f p =
    both_split (not (is_origin f.source) && (p.status == 508)) Nothing _ Nothing _ (λ _. refl)
    (both_split (f.is_asking && (p.status == 412)) Nothing _ Nothing _ (λ _. refl)
    (both_split (f.is_asking && (p.status == 304)) _ _ _ _
    (both_split p.is_about _ Nothing _ Nothing
    (both_split p.is_object _ Nothing _ Nothing (object_same f p suppliers.Confirmed) (λ _. refl)) (λ _. refl))
    (both_split ((p.status == 304) && (f.is_shared && f.has_shelf)) Nothing _ Nothing _ (λ _. refl)
    (both_split p.is_object _ Nothing _ Nothing (itself_same f p) (λ _. refl)))))

brings_same : (f : Flight) (end : End) → is_fragile (brings f false end) ≡ false → brings f true end ≡ brings f false end
brings_same f (ends.Whole p) e = stands_same f p e
brings_same f ends.Refused e = refl
brings_same f (ends.Failed x) e = refl

never_replaced : (f : Flight) (end : End) → is_replaced f true end ≡ false
never_replaced f (ends.Whole p) = refl
never_replaced f ends.Refused = refl
never_replaced f (ends.Failed x) = refl

unreplaced : (b : Bool) (y w : Brought) → (is_fragile y ≡ false → w ≡ y) → is_fragile (cond b (object false suppliers.Stale) y) ≡ false → w ≡ cond b (object false suppliers.Stale) y
unreplaced true y w h e = absurd (cc)
unreplaced false y w h e = h e

brought_same : (f : Flight) (end : End) → is_fragile (brought f false end) ≡ false → brought f true end ≡ brought f false end
unfolding brought
brought_same f end e =
    on_false (is_replaced f true end) (object false suppliers.Stale) (brings f true end) (never_replaced f end) ∙ unreplaced (is_replaced f false end) (brings f false end) (brings f true end) (brings_same f end) e

lost_not : (f : Flight) (l : Landing) → l.is_remade ≡ false → is_lost f true l ≡ false → is_fragile (brought f false l.end) ≡ false
unfolding is_lost
lost_not f l first e = ap (λ b. not b && is_fragile (brought f false l.end)) (sym first) ∙ e

or_yes : (b : Bool) → (b || true) ≡ true
or_yes true = refl
or_yes false = refl

same_brought : (f : Flight) (o : Bool) (l : Landing) (r : Bool) → l.is_remade ≡ r → is_lost f o l ≡ false → brought f (o || l.is_remade) l.end ≡ brought f l.is_remade l.end
same_brought f false l r is e = refl
same_brought f true l true is e = ap (λ b. brought f b l.end) (sym is)
same_brought f true l false is e =
    brought_same f l.end (lost_not f l is e) ∙ ap (λ b. brought f b l.end) (sym is)

listed_fit : (last : Option Brought) (b : Bool) (c : Command) (rest : List Command) → FitsMade last c → AllByRecursion (FitsMade last) rest → AllByRecursion (FitsMade last) (listed (where_so b c) rest)
listed_fit last true c rest fits all = (fits, all)
listed_fit last false c rest fits all = all

hands_fit : (last : Option Brought) (f : Flight) (end : End) (b : Brought) → last ≡ Some b → AllByRecursion (FitsMade last) (hands_in f end b).commands
unfolding hands_in
hands_fit last f end b is =
    let third : List Command = listed (where_so (is_changed f end) does.NoteChanged) (does.HandIn b ∷ []) in
    let second : List Command = listed (where_so (is_unanswered f end) does.AskNoMore) third in
    let a : AllByRecursion (FitsMade last) third = listed_fit last (is_changed f end) does.NoteChanged (does.HandIn b ∷ []) tt (is, tt) in
    let c : AllByRecursion (FitsMade last) second = listed_fit last (is_unanswered f end) does.AskNoMore third tt a in
    shelf_case (λ o. AllByRecursion (FitsMade last) (listed o second)) f end b c (λ _ _. (tt, c)) (tt, c)

locked_fits : (last : Option Brought) (f : Flight) (o : Bool) (stage : Stage) → is_landing stage ≡ true → AgreesAt last f stage → AllByRecursion (FitsMade last) (turn f stage (events.Locked o)).commands
locked_fits last f o (stages.Landing l) landed agrees =
    split (λ (t : Turn). AllByRecursion (FitsMade last) t.commands) (is_lost f o l) _ _ (λ _. (tt, (tt, tt)))
    (λ e. hands_fit last f l.end _ (agrees ∙ ap Some (sym (same_brought f o l l.is_remade refl e))))
locked_fits last f o stage landed agrees = absurd (cc)

pub hands_in_made : (before : List Event) (is_overtaken : Bool) → is_landing (after unordered before).stage ≡ true → AllByRecursion (FitsMade (made None (orders unordered before))) (turn_of (after unordered before) (events.Locked is_overtaken)).commands
hands_in_made before o landed =
    let fetch = after unordered before in
    locked_fits (made None (orders unordered before)) fetch.flight o fetch.stage landed (agrees_after None unordered before tt)

-- WHAT HAS COME IS HANDED IN

pub unlost : (f : Flight) (l : Landing) → is_lost f false l ≡ false
unfolding is_lost
unlost f l = refl

pub landed_so : (f : Flight) (l : Landing) → locked_at f false l ≡ hands_in f l.end (brought f l.is_remade l.end)
landed_so f l = on_false (is_lost f false l) _ _ (unlost f l)

hands_count_one : (is : Brought → Bool) (f : Flight) (end : End) (b : Brought) (later : List Event) → count_by (hands is) ((hands_in f end b).commands ++ orders (hands_in f end b).fetch later) ≡ one (is b)
hands_count_one is f end b later =
    let t = hands_in f end b in
    let a = count_append (hands is) t.commands (orders t.fetch later) in
    let c = hands_count (hands is) f end b refl refl in
    let d = shelves_other (hands is) f end b refl refl in
    let e : orders t.fetch later ≡ [] = ap (λ (x : Fetch). orders x later) (hands_over f end b) ∙ over_is_quiet f later in
    let g : count_by (hands is) (orders t.fetch later) ≡ 0 = ap (λ (x : List Command). count_by (hands is) x) e in
    omega arith

-- how often something is handed in of an end, if no change has come between
pub lands_count : (is : Brought → Bool) (f : Flight) (end : End) (later : List Event) → count_by (hands is) ((lands f end).commands ++ orders (lands f end).fetch (events.Locked false ∷ later)) ≡ one (is (brought f false end))
lands_count is f end later =
    let l : Landing = record { end = end; is_remade = false } in
    let a = hands_count_one is f end (brought f false end) later in
    let b : count_by (hands is) ((locked_at f false l).commands ++ orders (locked_at f false l).fetch later) ≡ one (is (brought f false end)) =
    ap (λ (t : Turn). count_by (hands is) (t.commands ++ orders t.fetch later)) (landed_so f l) ∙ a in
    let c = count_append (hands is) (lands f end).commands ((locked_at f false l).commands ++ orders (locked_at f false l).fetch later) in
    omega arith

pub and_none : (a b : Bool) → b ≡ false → (a && b) ≡ false
and_none true b e = e
and_none false b e = refl

pub none_and : (a b : Bool) → a ≡ false → (a && b) ≡ false
none_and true b e = absurd (cc)
none_and false b e = refl

not_replaced : (f : Flight) (p : Page) → is_error p.status ≡ false → is_replaced f false (ends.Whole p) ≡ false
not_replaced f p e = and_none (is_for_all f) (is_error p.status && p.has_stale) (none_and (is_error p.status) p.has_stale e)

-- an answer of status 200 is given by itself
pub brought_page : (f : Flight) (p : Page) → p.status ≡ 200 → p.is_object ≡ true → brought f false (ends.Whole p) ≡ object (is_kept f false p && (p.status == 200)) (supplier_of f.source)
unfolding brought
brought_page f p is some =
    on_false (is_replaced f false (ends.Whole p)) _ _ (not_replaced f p (ap is_error is)) ∙ on_false (not (is_origin f.source) && (p.status == 508)) _ _ (and_none (not (is_origin f.source)) (p.status == 508) (ap (λ n. n == 508) is)) ∙ on_false (f.is_asking && (p.status == 412)) _ _ (and_none f.is_asking (p.status == 412) (ap (λ n. n == 412) is)) ∙ on_false (f.is_asking && (p.status == 304)) _ _ (and_none f.is_asking (p.status == 304) (ap (λ n. n == 304) is)) ∙ on_false ((p.status == 304) && (f.is_shared && f.has_shelf)) _ _ (none_and (p.status == 304) _ (ap (λ n. n == 304) is)) ∙ on_true p.is_object _ _ some

pub page_is_given : (f : Flight) (e : Exchange) (p : Page) (later : List Event) → p.status ≡ 200 → p.is_object ≡ true → count_by (hands is_object_one) (orders (fetch_at f (stages.Exchanging e)) (events.Whole p ∷ events.Locked false ∷ later)) ≡ 1
page_is_given f e p later is some =
    lands_count is_object_one f (ends.Whole p) later ∙ ap (λ b. one (is_object_one b)) (brought_page f p is some)

pub four_true : (s m h e : Bool) → s ≡ true → m ≡ true → h ≡ false → e ≡ true → one ((s && (m && (not false && not h))) && e) ≡ 1
four_true true true false true a b c d = refl
four_true s m h e a b c d = absurd (cc)

pub page_is_kept : (f : Flight) (e : Exchange) (p : Page) (later : List Event) → p.status ≡ 200 → p.is_object ≡ true → f.is_shared ≡ true → p.may_keep ≡ true → p.hides_rules ≡ false → count_by (hands is_kept_object) (orders (fetch_at f (stages.Exchanging e)) (events.Whole p ∷ events.Locked false ∷ later)) ≡ 1
page_is_kept f e p later is some shared may open_rules =
    lands_count is_kept_object f (ends.Whole p) later ∙ ap (λ b. one (is_kept_object b)) (brought_page f p is some) ∙ four_true f.is_shared p.may_keep p.hides_rules (p.status == 200) shared may open_rules (ap (λ n. n == 200) is)

pub both_true : (a b : Bool) → a ≡ true → b ≡ true → (a && b) ≡ true
both_true true b e g = g
both_true false b e g = absurd (cc)

-- a 304 about what was asked about confirms it
pub brought_confirmed : (f : Flight) (p : Page) → f.is_asking ≡ true → p.status ≡ 304 → p.is_about ≡ true → p.is_object ≡ true → brought f false (ends.Whole p) ≡ object (is_kept f false p) suppliers.Confirmed
unfolding brought
brought_confirmed f p asking is about some =
    on_false (is_replaced f false (ends.Whole p)) _ _ (not_replaced f p (ap is_error is)) ∙ on_false (not (is_origin f.source) && (p.status == 508)) _ _ (and_none (not (is_origin f.source)) (p.status == 508) (ap (λ n. n == 508) is)) ∙ on_false (f.is_asking && (p.status == 412)) _ _ (and_none f.is_asking (p.status == 412) (ap (λ n. n == 412) is)) ∙ on_true (f.is_asking && (p.status == 304)) _ _ (both_true f.is_asking (p.status == 304) asking (ap (λ n. n == 304) is)) ∙ on_true p.is_about _ _ about ∙ on_true p.is_object _ _ some

pub confirmed_is_given : (f : Flight) (e : Exchange) (p : Page) (later : List Event) → f.is_asking ≡ true → p.status ≡ 304 → p.is_about ≡ true → p.is_object ≡ true → count_by (hands (comes_from is_confirmed_one)) (orders (fetch_at f (stages.Exchanging e)) (events.Whole p ∷ events.Locked false ∷ later)) ≡ 1
confirmed_is_given f e p later asking is about some =
    lands_count (comes_from is_confirmed_one) f (ends.Whole p) later ∙ ap (λ b. one (comes_from is_confirmed_one b)) (brought_confirmed f p asking is about some)

-- something stale is given where the origin is down
brought_stale : (f : Flight) (x : Failure) → is_replaced f false (ends.Failed x) ≡ true → brought f false (ends.Failed x) ≡ object false suppliers.Stale
unfolding brought
brought_stale f x e = on_true (is_replaced f false (ends.Failed x)) _ _ e

pub replaced_so : (o s l t : Bool) → o ≡ true → s ≡ true → l ≡ true → t ≡ true → (not false && ((o && s) && (l && t))) ≡ true
replaced_so true true true true a b c d = refl
replaced_so o s l t a b c d = absurd (cc)

pub stale_is_given : (f : Flight) (x : Failure) (later : List Event) → is_from_origin f.source ≡ true → f.is_shared ≡ true → is_outage x.fault ≡ true → x.has_stale ≡ true → count_by (hands (comes_from is_stale_one)) (orders (fetch_at f stages.Seeking) (events.Failed x ∷ events.Locked false ∷ later)) ≡ 1
stale_is_given f x later origin shared out some =
    lands_count (comes_from is_stale_one) f (ends.Failed x) later ∙ ap (λ b. one (comes_from is_stale_one b)) (brought_stale f x (replaced_so (is_origin f.source) f.is_shared (is_loss x.fault) x.has_stale (sym (same_origin f.source) ∙ origin) shared (sym (same_outage x.fault) ∙ out) some))

-- A SERVER IS TRIED

no_way : (n a h b : Bool) → (n || a) ≡ false → (h && (n || b)) ≡ false → (n || (a || (h && b))) ≡ true → true ≡ false
no_way false false h b e g w = sym w ∙ g
no_way n a h b e g w = absurd (cc)

pub server_is_tried : (f : Flight) (a : Addresses) → has_way f a ≡ true → count_by (goes_to is_either) (turn f stages.Seeking (events.Addressed a)).commands ≡ 1
server_is_tried f a way =
    let P : Turn → Type 0 = λ t. count_by (goes_to is_either) t.commands ≡ 1 in
    split P (may_first f a && a.is_first_kept) _ _ (λ _. refl)
    (λ _. split P (may_other f a && a.is_other_kept) _ _ (λ _. refl)
    (λ _. split P (may_first f a) _ _ (λ _. refl)
    (λ n. split P (may_other f a) _ _ (λ _. refl)
    (λ m. let w : (not (is_origin f.source) || (a.is_first_admitted || (a.has_other && a.is_other_admitted))) ≡ true =
    ap (λ b. not b || (a.is_first_admitted || (a.has_other && a.is_other_admitted))) (sym (same_origin f.source)) ∙ way in
    let e = no_way (not (is_origin f.source)) a.is_first_admitted a.has_other a.is_other_admitted n m w in absurd (cc)))))

pub turned : (w : Which) → 0 + cond {A = ℕ} (is_beside w (opposite w)) 1 0 ≡ 1
turned First = refl
turned Other = refl

pub other_is_tried : (f : Flight) (x : Failure) (r : Reach) → is_unreached x.fault ≡ true → r.has_other ≡ true → count_by (goes_to (is_beside r.at)) (turn f (stages.Connecting r) (events.Failed x)).commands ≡ 1
other_is_tried f x r unreached has =
    ap (λ (t : Turn). count_by (goes_to (is_beside r.at)) t.commands) (on_true (is_connect x.fault && r.has_other) _ _ (both_true (is_connect x.fault) r.has_other (sym (same_unreached x.fault) ∙ unreached) has)) ∙ turned r.at
