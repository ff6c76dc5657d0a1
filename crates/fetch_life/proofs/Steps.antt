-- What holds of each row.
use Rattle.std.proofs.Common.{◌≡◌, ◌==◌, ℕ, ◌+◌, ◌*◌, ◌≤◌, Bool, true, false, not, ◌&&◌, ◌||◌, cond, arith, count_by, refl, ◌∙◌, ap}
use Rattle.fetch_life.specs.declared.facts.Order.{Order}
use Rattle.fetch_life.specs.declared.facts.Page.{Page}
use Rattle.fetch_life.specs.declared.facts.Source.{Source}
use Rattle.fetch_life.specs.declared.facts.Source.TheVariants.{Origin, Parent, Sibling}
use Rattle.fetch_life.specs.declared.facts.End.{End}
use Rattle.fetch_life.specs.declared.facts.End.TheVariants as ends
use Rattle.fetch_life.specs.declared.commands.Brought.{Brought}
use Rattle.fetch_life.specs.declared.commands.Command.{Command}
use Rattle.fetch_life.specs.declared.events.Event.{Event}
use Rattle.fetch_life.specs.declared.events.Event.TheVariants as events
use Rattle.fetch_life.specs.declared.stages.Fetch.{Fetch}
use Rattle.fetch_life.specs.declared.stages.Flight.{Flight}
use Rattle.fetch_life.specs.declared.stages.Stage.{Stage}
use Rattle.fetch_life.specs.declared.stages.Stage.TheVariants as stages
use Rattle.fetch_life.specs.Table.{Turn, brought, hands_in, is_origin, asks, may_first, may_other, opposite}
use Rattle.fetch_life.specs.Rows.{Row, awaits}
use Rattle.fetch_life.specs.Rows as rows
use Rattle.fetch_life.specs.Laws.{one, is_any, is_hand_in, is_kept_object, is_confirmed_one, is_stale_one, comes_from, hands, is_shelve, keeps, is_first, is_other, goes_to, is_offer, sends_clients, sends_conditions, is_not_for_all, is_not_private, is_not_of_origin, is_not_asking, confirms_nothing, is_not_down, is_not_unchanged, bars_first, bars_other, is_over, is_count, is_unwanted_one, renews, is_from_origin, may_ask, keeps_or_confirms, is_awaited, is_landing, is_exchanging}
use Rattle.fetch_life.proofs.Measures.{counts_left, commands_left, is_down, harm_shared, harm_private, harm_origin, harm_asking, harm_confirming, harm_down, harm_first, harm_other, harm_none, steps_left, harm_odd, harm_current, is_odd}
use Rattle.fetch_life.proofs.Bringing.{kept_is_shared, kept_is_current, confirmed_is_asked, confirmed_is_about, stale_is_shared, stale_is_of_origin, stale_is_current, stale_is_down, brought_is_wanted, odd_is_unkept, odd_is_unconfirmed}
use Rattle.fetch_life.proofs.Handing.{shelves_kept, shelves_confirmed, shelves_of_origin, shelves_other, hands_count, hands_over, hands_four}

abbrev pub at : Flight → Stage → Fetch
at f stage = record { flight = f; stage = stage }

-- what is done, and what may do harm then, comes from what might before, or from the event
abbrev pub Harmless : (Command → Bool) → (Fetch → ℕ) → (Event → Bool) → Type 0
Harmless is harm fits = (f : Flight) (stage : Stage) (event : Event) (t : Turn) → Row f stage event t → count_by is t.commands + harm t.fetch ≤ 4 * (harm (at f stage) + one (not (fits event)))

pub twice : (b : Bool) → one (not (not b)) ≡ one b
twice true = refl
twice false = refl

pub small : (b : Bool) → one b ≤ 1
small true = omega arith
small false = omega arith

tests : (b : Bool) → cond {A = ℕ} b 1 0 ≡ one b
tests true = refl
tests false = refl

or_false : (a b : Bool) → one (not (a || b)) ≤ one (not a)
or_false true b = omega arith
or_false false true = omega arith
or_false false false = omega arith

or_sum : (a b : Bool) → one (a || b) ≤ one a + one b
or_sum true b = omega arith
or_sum false b = omega arith

or_first : (a b : Bool) → one a ≤ one (a || b)
or_first true b = omega arith
or_first false b = omega arith

or_second : (a b : Bool) → b ≡ true → one (a || b) ≡ 1
or_second true b e = refl
or_second false b e = ap one e

true_sum : (a b : Bool) → (a || b) ≡ true → 1 ≤ one a + one b
true_sum true b e = omega arith
true_sum false true e = omega arith
true_sum false false e = absurd (cc)

and_or_sum : (h a b : Bool) → one (h && (a || b)) ≤ one a + one (h && b)
and_or_sum true a b = or_sum a b
and_or_sum false a b = omega arith

true_and_sum : (h a b : Bool) → (h && (a || b)) ≡ true → 1 ≤ one a + one (h && b)
true_and_sum true a b e = true_sum a b e
true_and_sum false a b e = absurd (cc)

pub over_harm : (harm : Fetch → ℕ) (f : Flight) (end : End) (b : Brought) → harm (hands_in f end b).fetch ≡ harm (at f stages.Over)
over_harm harm f end b = ap harm (hands_over f end b)

of_origin : (s : Source) → one (not (not (is_from_origin s))) ≡ one (is_origin s)
of_origin Origin = refl
of_origin Parent = refl
of_origin Sibling = refl

not_origin : (s : Source) → one (not (is_from_origin s)) ≡ one (not (is_origin s))
not_origin Origin = refl
not_origin Parent = refl
not_origin Sibling = refl

pub same_origin : (s : Source) → is_from_origin s ≡ is_origin s
same_origin Origin = refl
same_origin Parent = refl
same_origin Sibling = refl

pub may_ask_so : (o : Order) → one (not (not (may_ask o))) ≡ one (asks o)
may_ask_so o = twice (may_ask o) ∙ ap (λ b. one (b && (o.has_shelf && (o.has_shelved && (o.is_shared || o.lets_validate))))) (same_origin o.source)

pub hands_once : (f : Flight) (stage : Stage) (event : Event) (t : Turn) → Row f stage event t → count_by is_hand_in t.commands + one (is_over stage) ≡ one (is_over t.fetch.stage)
hands_once f stage event t (rows.Idle g s e idle) = omega arith
hands_once f stage event t (rows.Hands_in g o l) =
    let a = hands_count is_hand_in g l.end (brought g (o || l.is_remade) l.end) refl refl in
    let b = shelves_other is_hand_in g l.end (brought g (o || l.is_remade) l.end) refl refl in
    let c : one (is_over (hands_in g l.end (brought g (o || l.is_remade) l.end)).fetch.stage) ≡ 1 = ap (λ (x : Fetch). one (is_over x.stage)) (hands_over g l.end (brought g (o || l.is_remade) l.end)) in
    omega arith
hands_once f stage event t row = refl

pub keeps_current : Harmless keeps harm_none is_not_unchanged
keeps_current f stage event t (rows.Hands_in g o l) =
    let a = hands_count keeps g l.end (brought g (o || l.is_remade) l.end) refl refl in
    let b = shelves_kept g l.end (brought g (o || l.is_remade) l.end) in
    let c = kept_is_current g (o || l.is_remade) l.end in
    let d = or_false o l.is_remade in
    omega arith
keeps_current f stage event t row = omega arith

pub stale_current : Harmless (hands (comes_from is_stale_one)) harm_none is_not_unchanged
stale_current f stage event t (rows.Hands_in g o l) =
    let a = hands_count (hands (comes_from is_stale_one)) g l.end (brought g (o || l.is_remade) l.end) refl refl in
    let b = shelves_other (hands (comes_from is_stale_one)) g l.end (brought g (o || l.is_remade) l.end) refl refl in
    let c = stale_is_current g (o || l.is_remade) l.end in
    let d = or_false o l.is_remade in
    omega arith
stale_current f stage event t row = omega arith

pub keeps_shared : Harmless keeps harm_shared is_not_for_all
keeps_shared f stage event t (rows.Idle g s e idle) = omega arith
keeps_shared f stage event t (rows.Begins g o wanted possible) = let a = twice o.is_shared in omega arith
keeps_shared f stage event t (rows.Renewed g o wanted possible) = let a = twice o.is_shared in omega arith
keeps_shared f stage event t (rows.Impossible g o wanted impossible) = let a = twice o.is_shared in omega arith
keeps_shared f stage event t (rows.Renewed_private g o impossible owned) = let a = twice o.is_shared in omega arith
keeps_shared f stage event t (rows.Renewed_impossible g o impossible shared) = let a = twice o.is_shared in omega arith
keeps_shared f stage event t (rows.Unbegun g o shared unwanted fresh) = let a = twice o.is_shared in omega arith
keeps_shared f stage event t (rows.Renewed_unbegun g o shared unwanted) = let a = twice o.is_shared in omega arith
keeps_shared f stage event t (rows.Unbegun_again g o shared unwanted again) = let a = twice o.is_shared in omega arith
keeps_shared f stage event t (rows.Hands_in g o l) =
    let a = hands_count keeps g l.end (brought g (o || l.is_remade) l.end) refl refl in
    let b = shelves_kept g l.end (brought g (o || l.is_remade) l.end) in
    let c = kept_is_shared g (o || l.is_remade) l.end in
    let d = over_harm harm_shared g l.end (brought g (o || l.is_remade) l.end) in
    omega arith
keeps_shared f stage event t row = omega arith

pub stale_shared : Harmless (hands (comes_from is_stale_one)) harm_shared is_not_for_all
stale_shared f stage event t (rows.Idle g s e idle) = omega arith
stale_shared f stage event t (rows.Begins g o wanted possible) = let a = twice o.is_shared in omega arith
stale_shared f stage event t (rows.Renewed g o wanted possible) = let a = twice o.is_shared in omega arith
stale_shared f stage event t (rows.Impossible g o wanted impossible) = let a = twice o.is_shared in omega arith
stale_shared f stage event t (rows.Renewed_private g o impossible owned) = let a = twice o.is_shared in omega arith
stale_shared f stage event t (rows.Renewed_impossible g o impossible shared) = let a = twice o.is_shared in omega arith
stale_shared f stage event t (rows.Unbegun g o shared unwanted fresh) = let a = twice o.is_shared in omega arith
stale_shared f stage event t (rows.Renewed_unbegun g o shared unwanted) = let a = twice o.is_shared in omega arith
stale_shared f stage event t (rows.Unbegun_again g o shared unwanted again) = let a = twice o.is_shared in omega arith
stale_shared f stage event t (rows.Hands_in g o l) =
    let a = hands_count (hands (comes_from is_stale_one)) g l.end (brought g (o || l.is_remade) l.end) refl refl in
    let b = shelves_other (hands (comes_from is_stale_one)) g l.end (brought g (o || l.is_remade) l.end) refl refl in
    let c = stale_is_shared g (o || l.is_remade) l.end in
    let d = over_harm harm_shared g l.end (brought g (o || l.is_remade) l.end) in
    omega arith
stale_shared f stage event t row = omega arith

pub offers_shared : Harmless is_offer harm_shared is_not_for_all
offers_shared f stage event t (rows.Idle g s e idle) = omega arith
offers_shared f stage event t (rows.Begins g o wanted possible) = let a = twice o.is_shared in omega arith
offers_shared f stage event t (rows.Renewed g o wanted possible) = let a = twice o.is_shared in omega arith
offers_shared f stage event t (rows.Impossible g o wanted impossible) = let a = twice o.is_shared in omega arith
offers_shared f stage event t (rows.Renewed_private g o impossible owned) = let a = twice o.is_shared in omega arith
offers_shared f stage event t (rows.Renewed_impossible g o impossible shared) = let a = twice o.is_shared in omega arith
offers_shared f stage event t (rows.Unbegun g o shared unwanted fresh) = let a = twice o.is_shared in omega arith
offers_shared f stage event t (rows.Renewed_unbegun g o shared unwanted) = let a = twice o.is_shared in omega arith
offers_shared f stage event t (rows.Unbegun_again g o shared unwanted again) = let a = twice o.is_shared in omega arith
offers_shared f stage event t (rows.Offers g h e shared fresh ok streams long) = let a : one g.is_shared ≡ 1 = ap one shared in omega arith
offers_shared f stage event t (rows.Hands_in g o l) =
    let a = hands_count is_offer g l.end (brought g (o || l.is_remade) l.end) refl refl in
    let b = shelves_other is_offer g l.end (brought g (o || l.is_remade) l.end) refl refl in
    let d = over_harm harm_shared g l.end (brought g (o || l.is_remade) l.end) in
    omega arith
offers_shared f stage event t row = omega arith

pub shelves_origin : Harmless is_shelve harm_origin is_not_of_origin
shelves_origin f stage event t (rows.Idle g s e idle) = omega arith
shelves_origin f stage event t (rows.Begins g o wanted possible) = let a = of_origin o.source in omega arith
shelves_origin f stage event t (rows.Renewed g o wanted possible) = let a = of_origin o.source in omega arith
shelves_origin f stage event t (rows.Impossible g o wanted impossible) = let a = of_origin o.source in omega arith
shelves_origin f stage event t (rows.Renewed_private g o impossible owned) = let a = of_origin o.source in omega arith
shelves_origin f stage event t (rows.Renewed_impossible g o impossible shared) = let a = of_origin o.source in omega arith
shelves_origin f stage event t (rows.Unbegun g o shared unwanted fresh) = let a = of_origin o.source in omega arith
shelves_origin f stage event t (rows.Renewed_unbegun g o shared unwanted) = let a = of_origin o.source in omega arith
shelves_origin f stage event t (rows.Unbegun_again g o shared unwanted again) = let a = of_origin o.source in omega arith
shelves_origin f stage event t (rows.Hands_in g o l) =
    let a = hands_count is_shelve g l.end (brought g (o || l.is_remade) l.end) refl refl in
    let b = shelves_of_origin g l.end (brought g (o || l.is_remade) l.end) in
    let d = over_harm harm_origin g l.end (brought g (o || l.is_remade) l.end) in
    omega arith
shelves_origin f stage event t row = omega arith

pub stale_origin : Harmless (hands (comes_from is_stale_one)) harm_origin is_not_of_origin
stale_origin f stage event t (rows.Idle g s e idle) = omega arith
stale_origin f stage event t (rows.Begins g o wanted possible) = let a = of_origin o.source in omega arith
stale_origin f stage event t (rows.Renewed g o wanted possible) = let a = of_origin o.source in omega arith
stale_origin f stage event t (rows.Impossible g o wanted impossible) = let a = of_origin o.source in omega arith
stale_origin f stage event t (rows.Renewed_private g o impossible owned) = let a = of_origin o.source in omega arith
stale_origin f stage event t (rows.Renewed_impossible g o impossible shared) = let a = of_origin o.source in omega arith
stale_origin f stage event t (rows.Unbegun g o shared unwanted fresh) = let a = of_origin o.source in omega arith
stale_origin f stage event t (rows.Renewed_unbegun g o shared unwanted) = let a = of_origin o.source in omega arith
stale_origin f stage event t (rows.Unbegun_again g o shared unwanted again) = let a = of_origin o.source in omega arith
stale_origin f stage event t (rows.Hands_in g o l) =
    let a = hands_count (hands (comes_from is_stale_one)) g l.end (brought g (o || l.is_remade) l.end) refl refl in
    let b = shelves_other (hands (comes_from is_stale_one)) g l.end (brought g (o || l.is_remade) l.end) refl refl in
    let c = stale_is_of_origin g (o || l.is_remade) l.end in
    let d = over_harm harm_origin g l.end (brought g (o || l.is_remade) l.end) in
    omega arith
stale_origin f stage event t row = omega arith

pub confirms_asking : Harmless (hands (comes_from is_confirmed_one)) harm_asking is_not_asking
confirms_asking f stage event t (rows.Idle g s e idle) = omega arith
confirms_asking f stage event t (rows.Begins g o wanted possible) = let a = may_ask_so o in omega arith
confirms_asking f stage event t (rows.Renewed g o wanted possible) = let a = may_ask_so o in omega arith
confirms_asking f stage event t (rows.Impossible g o wanted impossible) = let a = may_ask_so o in omega arith
confirms_asking f stage event t (rows.Renewed_private g o impossible owned) = let a = may_ask_so o in omega arith
confirms_asking f stage event t (rows.Renewed_impossible g o impossible shared) = let a = may_ask_so o in omega arith
confirms_asking f stage event t (rows.Unbegun g o shared unwanted fresh) = let a = may_ask_so o in omega arith
confirms_asking f stage event t (rows.Renewed_unbegun g o shared unwanted) = let a = may_ask_so o in omega arith
confirms_asking f stage event t (rows.Unbegun_again g o shared unwanted again) = let a = may_ask_so o in omega arith
confirms_asking f stage event t (rows.Hands_in g o l) =
    let a = hands_count (hands (comes_from is_confirmed_one)) g l.end (brought g (o || l.is_remade) l.end) refl refl in
    let b = shelves_other (hands (comes_from is_confirmed_one)) g l.end (brought g (o || l.is_remade) l.end) refl refl in
    let c = confirmed_is_asked g (o || l.is_remade) l.end in
    let d = over_harm harm_asking g l.end (brought g (o || l.is_remade) l.end) in
    omega arith
confirms_asking f stage event t row = omega arith

pub conditions_asking : Harmless sends_conditions harm_asking is_not_asking
conditions_asking f stage event t (rows.Idle g s e idle) = omega arith
conditions_asking f stage event t (rows.Begins g o wanted possible) = let a = may_ask_so o in omega arith
conditions_asking f stage event t (rows.Renewed g o wanted possible) = let a = may_ask_so o in omega arith
conditions_asking f stage event t (rows.Impossible g o wanted impossible) = let a = may_ask_so o in omega arith
conditions_asking f stage event t (rows.Renewed_private g o impossible owned) = let a = may_ask_so o in omega arith
conditions_asking f stage event t (rows.Renewed_impossible g o impossible shared) = let a = may_ask_so o in omega arith
conditions_asking f stage event t (rows.Unbegun g o shared unwanted fresh) = let a = may_ask_so o in omega arith
conditions_asking f stage event t (rows.Renewed_unbegun g o shared unwanted) = let a = may_ask_so o in omega arith
conditions_asking f stage event t (rows.Unbegun_again g o shared unwanted again) = let a = may_ask_so o in omega arith
conditions_asking f stage event t (rows.Reuses_first g x may kept) = let a = tests g.is_asking in omega arith
conditions_asking f stage event t (rows.Reuses_other g x may kept) = let a = tests g.is_asking in omega arith
conditions_asking f stage event t (rows.Connected g r) = let a = tests g.is_asking in omega arith
conditions_asking f stage event t (rows.Hands_in g o l) =
    let a = hands_count sends_conditions g l.end (brought g (o || l.is_remade) l.end) refl refl in
    let b = shelves_other sends_conditions g l.end (brought g (o || l.is_remade) l.end) refl refl in
    let d = over_harm harm_asking g l.end (brought g (o || l.is_remade) l.end) in
    omega arith
conditions_asking f stage event t row = omega arith

and_less : (a b : Bool) → one (a && b) ≤ one a
and_less true b = small b
and_less false b = omega arith

asks_less : (o : Order) → one (asks o) ≤ one (is_origin o.source)
asks_less o = and_less (is_origin o.source) _

pub conditions_of_origin : Harmless sends_conditions harm_asking is_not_of_origin
conditions_of_origin f stage event t (rows.Idle g s e idle) = omega arith
conditions_of_origin f stage event t (rows.Begins g o wanted possible) =
    let a = of_origin o.source in let b = asks_less o in omega arith
conditions_of_origin f stage event t (rows.Renewed g o wanted possible) =
    let a = of_origin o.source in let b = asks_less o in omega arith
conditions_of_origin f stage event t (rows.Impossible g o wanted impossible) =
    let a = of_origin o.source in let b = asks_less o in omega arith
conditions_of_origin f stage event t (rows.Renewed_private g o impossible owned) =
    let a = of_origin o.source in let b = asks_less o in omega arith
conditions_of_origin f stage event t (rows.Renewed_impossible g o impossible shared) =
    let a = of_origin o.source in let b = asks_less o in omega arith
conditions_of_origin f stage event t (rows.Unbegun g o shared unwanted fresh) =
    let a = of_origin o.source in let b = asks_less o in omega arith
conditions_of_origin f stage event t (rows.Renewed_unbegun g o shared unwanted) =
    let a = of_origin o.source in let b = asks_less o in omega arith
conditions_of_origin f stage event t (rows.Unbegun_again g o shared unwanted again) =
    let a = of_origin o.source in let b = asks_less o in omega arith
conditions_of_origin f stage event t (rows.Reuses_first g x may kept) = let a = tests g.is_asking in omega arith
conditions_of_origin f stage event t (rows.Reuses_other g x may kept) = let a = tests g.is_asking in omega arith
conditions_of_origin f stage event t (rows.Connected g r) = let a = tests g.is_asking in omega arith
conditions_of_origin f stage event t (rows.Hands_in g o l) =
    let a = hands_count sends_conditions g l.end (brought g (o || l.is_remade) l.end) refl refl in
    let b = shelves_other sends_conditions g l.end (brought g (o || l.is_remade) l.end) refl refl in
    let d = over_harm harm_asking g l.end (brought g (o || l.is_remade) l.end) in
    omega arith
conditions_of_origin f stage event t row = omega arith

pub confirms_about : Harmless (hands (comes_from is_confirmed_one)) harm_confirming confirms_nothing
confirms_about f stage event t (rows.Idle g s e idle) = omega arith
confirms_about f stage event t (rows.Ends g p e) = let a = twice ((p.status == 304) && p.is_about) in omega arith
confirms_about f stage event t (rows.Hands_in g o l) =
    let a = hands_count (hands (comes_from is_confirmed_one)) g l.end (brought g (o || l.is_remade) l.end) refl refl in
    let b = shelves_other (hands (comes_from is_confirmed_one)) g l.end (brought g (o || l.is_remade) l.end) refl refl in
    let c = confirmed_is_about g (o || l.is_remade) l.end in
    let d = over_harm harm_confirming g l.end (brought g (o || l.is_remade) l.end) in
    omega arith
confirms_about f stage event t row = omega arith

pub stale_down : Harmless (hands (comes_from is_stale_one)) harm_down is_not_down
stale_down f stage event t (rows.Idle g s e idle) = omega arith
stale_down f stage event t (rows.Ends g p e) = let a = twice (is_down (ends.Whole p)) in omega arith
stale_down f stage event t (rows.Fails_seeking g x) = let a = twice (is_down (ends.Failed x)) in omega arith
stale_down f stage event t (rows.Fails_connecting g x r) = let a = twice (is_down (ends.Failed x)) in omega arith
stale_down f stage event t (rows.Fails_exchanging g x e) = let a = twice (is_down (ends.Failed x)) in omega arith
stale_down f stage event t (rows.Hands_in g o l) =
    let a = hands_count (hands (comes_from is_stale_one)) g l.end (brought g (o || l.is_remade) l.end) refl refl in
    let b = shelves_other (hands (comes_from is_stale_one)) g l.end (brought g (o || l.is_remade) l.end) refl refl in
    let c = stale_is_down g (o || l.is_remade) l.end in
    let d = over_harm harm_down g l.end (brought g (o || l.is_remade) l.end) in
    omega arith
stale_down f stage event t row = omega arith

clients : (s a : Bool) → cond {A = ℕ} (not s || (not s && not a)) 1 0 ≤ one (not s)
clients true a = omega arith
clients false a = omega arith

pub fields_private : Harmless sends_clients harm_private is_not_private
fields_private f stage event t (rows.Idle g s e idle) = omega arith
fields_private f stage event t (rows.Reuses_first g x may kept) = let a = clients g.is_shared g.is_asking in omega arith
fields_private f stage event t (rows.Reuses_other g x may kept) = let a = clients g.is_shared g.is_asking in omega arith
fields_private f stage event t (rows.Connected g r) = let a = clients g.is_shared g.is_asking in omega arith
fields_private f stage event t (rows.Hands_in g o l) =
    let a = hands_count sends_clients g l.end (brought g (o || l.is_remade) l.end) refl refl in
    let b = shelves_other sends_clients g l.end (brought g (o || l.is_remade) l.end) refl refl in
    let d = over_harm harm_private g l.end (brought g (o || l.is_remade) l.end) in
    omega arith
fields_private f stage event t row = omega arith

pub goes_first : Harmless (goes_to is_first) harm_first bars_first
goes_first f stage event t (rows.Idle g s e idle) = omega arith
goes_first f stage event t (rows.Begins g o wanted possible) = let a = not_origin o.source in omega arith
goes_first f stage event t (rows.Unbegun g o shared unwanted fresh) = let a = not_origin o.source in omega arith
goes_first f stage event t (rows.Unbegun_again g o shared unwanted again) = let a = not_origin o.source in omega arith
goes_first f stage event t (rows.Impossible g o wanted impossible) = let a = not_origin o.source in omega arith
goes_first f stage event t (rows.Renewed g o wanted possible) = let a = not_origin o.source in omega arith
goes_first f stage event t (rows.Renewed_unbegun g o shared unwanted) = let a = not_origin o.source in omega arith
goes_first f stage event t (rows.Renewed_impossible g o impossible shared) = let a = not_origin o.source in omega arith
goes_first f stage event t (rows.Renewed_private g o impossible owned) = let a = not_origin o.source in omega arith
goes_first f stage event t (rows.Reuses_first g a may kept) =
    let b = true_sum (not (is_origin g.source)) a.is_first_admitted may in
    let c = twice a.is_first_admitted in let d = small (not (is_origin g.source)) in omega arith
goes_first f stage event t (rows.Reuses_other g a may kept) =
    let b = or_sum (not (is_origin g.source)) a.is_first_admitted in let c = twice a.is_first_admitted in omega arith
goes_first f stage event t (rows.Connects_first g a may) =
    let b = true_sum (not (is_origin g.source)) a.is_first_admitted may in
    let c = twice a.is_first_admitted in let d = small (not (is_origin g.source)) in omega arith
goes_first f stage event t (rows.Turns g x r has unconnected) =
    let a = or_second (is_first r.at) r.has_other has in
    let b = tests (is_first (opposite r.at)) in let c = small (is_first (opposite r.at)) in
    let d = small (is_first (opposite r.at) || false) in omega arith
goes_first f stage event t (rows.Goes_on g x e has none cut) =
    let a = or_second (is_first e.reach.at) e.reach.has_other has in
    let b = tests (is_first (opposite e.reach.at)) in let c = small (is_first (opposite e.reach.at)) in
    let d = small (is_first (opposite e.reach.at) || false) in omega arith
goes_first f stage event t (rows.Retries g x e reused none cut) =
    let a = tests (is_first e.reach.at) in let b = or_first (is_first e.reach.at) e.reach.has_other in omega arith
goes_first f stage event t (rows.Hands_in g o l) =
    let a = hands_count (goes_to is_first) g l.end (brought g (o || l.is_remade) l.end) refl refl in
    let b = shelves_other (goes_to is_first) g l.end (brought g (o || l.is_remade) l.end) refl refl in
    let d = over_harm harm_first g l.end (brought g (o || l.is_remade) l.end) in
    omega arith
goes_first f stage event t row = omega arith

pub goes_other : Harmless (goes_to is_other) harm_other bars_other
goes_other f stage event t (rows.Idle g s e idle) = omega arith
goes_other f stage event t (rows.Begins g o wanted possible) = let a = not_origin o.source in omega arith
goes_other f stage event t (rows.Unbegun g o shared unwanted fresh) = let a = not_origin o.source in omega arith
goes_other f stage event t (rows.Unbegun_again g o shared unwanted again) = let a = not_origin o.source in omega arith
goes_other f stage event t (rows.Impossible g o wanted impossible) = let a = not_origin o.source in omega arith
goes_other f stage event t (rows.Renewed g o wanted possible) = let a = not_origin o.source in omega arith
goes_other f stage event t (rows.Renewed_unbegun g o shared unwanted) = let a = not_origin o.source in omega arith
goes_other f stage event t (rows.Renewed_impossible g o impossible shared) = let a = not_origin o.source in omega arith
goes_other f stage event t (rows.Renewed_private g o impossible owned) = let a = not_origin o.source in omega arith
goes_other f stage event t (rows.Reuses_other g a may kept) =
    let b = true_and_sum a.has_other (not (is_origin g.source)) a.is_other_admitted may in
    let c = twice (a.has_other && a.is_other_admitted) in let d = small (not (is_origin g.source)) in omega arith
goes_other f stage event t (rows.Reuses_first g a may kept) =
    let b = and_or_sum a.has_other (not (is_origin g.source)) a.is_other_admitted in let c = twice (a.has_other && a.is_other_admitted) in omega arith
goes_other f stage event t (rows.Connects_first g a may) =
    let b = and_or_sum a.has_other (not (is_origin g.source)) a.is_other_admitted in let c = twice (a.has_other && a.is_other_admitted) in omega arith
goes_other f stage event t (rows.Connects_other g a may denied) =
    let b = true_and_sum a.has_other (not (is_origin g.source)) a.is_other_admitted may in
    let c = twice (a.has_other && a.is_other_admitted) in let d = small (not (is_origin g.source)) in omega arith
goes_other f stage event t (rows.Turns g x r has unconnected) =
    let a = or_second (is_other r.at) r.has_other has in
    let b = tests (is_other (opposite r.at)) in let c = small (is_other (opposite r.at)) in
    let d = small (is_other (opposite r.at) || false) in omega arith
goes_other f stage event t (rows.Goes_on g x e has none cut) =
    let a = or_second (is_other e.reach.at) e.reach.has_other has in
    let b = tests (is_other (opposite e.reach.at)) in let c = small (is_other (opposite e.reach.at)) in
    let d = small (is_other (opposite e.reach.at) || false) in omega arith
goes_other f stage event t (rows.Retries g x e reused none cut) =
    let a = tests (is_other e.reach.at) in let b = or_first (is_other e.reach.at) e.reach.has_other in omega arith
goes_other f stage event t (rows.Hands_in g o l) =
    let a = hands_count (goes_to is_other) g l.end (brought g (o || l.is_remade) l.end) refl refl in
    let b = shelves_other (goes_to is_other) g l.end (brought g (o || l.is_remade) l.end) refl refl in
    let d = over_harm harm_other g l.end (brought g (o || l.is_remade) l.end) in
    omega arith
goes_other f stage event t row = omega arith

pub does_less : (f : Flight) (stage : Stage) (event : Event) (t : Turn) → Row f stage event t → count_by is_any t.commands + commands_left t.fetch.stage ≤ commands_left stage + 21 * one (renews event)
does_less f stage event t (rows.Idle g s e idle) = omega arith
does_less f stage event t (rows.Turns g x r has unconnected) = let a : one r.has_other ≡ 1 = ap one has in omega arith
does_less f stage event t (rows.Retries g x e reused none cut) = let a : one e.is_reused ≡ 1 = ap one reused in omega arith
does_less f stage event t (rows.Goes_on g x e has none cut) = let a : one e.reach.has_other ≡ 1 = ap one has in omega arith
does_less f stage event t (rows.Offers g h e shared fresh ok streams long) = let a : one (not e.is_offered) ≡ 1 = ap (λ b. one (not b)) fresh in omega arith
does_less f stage event t (rows.Reuses_first g a may kept) = let b = small (may_other g a) in omega arith
does_less f stage event t (rows.Reuses_other g a may kept) = let b = small (may_first g a) in omega arith
does_less f stage event t (rows.Connects_first g a may) = let b = small (may_other g a) in omega arith
does_less f stage event t (rows.Remakes g l first) = let a : one (not l.is_remade) ≡ 1 = ap (λ b. one (not b)) first in omega arith
does_less f stage event t (rows.Hands_in g o l) =
    let a = hands_four g l.end (brought g (o || l.is_remade) l.end) in
    let b : commands_left (hands_in g l.end (brought g (o || l.is_remade) l.end)).fetch.stage ≡ 0 = ap (λ (x : Fetch). commands_left x.stage) (hands_over g l.end (brought g (o || l.is_remade) l.end)) in
    omega arith
does_less f stage event t row = omega arith

pub counts_less : (f : Flight) (stage : Stage) (event : Event) (t : Turn) → Row f stage event t → count_by is_count t.commands + counts_left t.fetch.stage ≤ counts_left stage
counts_less f stage event t (rows.Idle g s e idle) = omega arith
counts_less f stage event t (rows.Hands_in g o l) =
    let a = hands_count is_count g l.end (brought g (o || l.is_remade) l.end) refl refl in
    let b = shelves_other is_count g l.end (brought g (o || l.is_remade) l.end) refl refl in
    let c : counts_left (hands_in g l.end (brought g (o || l.is_remade) l.end)).fetch.stage ≡ 0 = ap (λ (x : Fetch). counts_left x.stage) (hands_over g l.end (brought g (o || l.is_remade) l.end)) in
    omega arith
counts_less f stage event t row = omega arith

-- only a fetch for all is given up for want of clients
pub given_up_shared : Harmless (hands is_unwanted_one) harm_shared is_not_for_all
given_up_shared f stage event t (rows.Idle g s e idle) = omega arith
given_up_shared f stage event t (rows.Begins g o wanted possible) = let a = twice o.is_shared in omega arith
given_up_shared f stage event t (rows.Renewed g o wanted possible) = let a = twice o.is_shared in omega arith
given_up_shared f stage event t (rows.Impossible g o wanted impossible) = let a = twice o.is_shared in omega arith
given_up_shared f stage event t (rows.Renewed_private g o impossible owned) = let a = twice o.is_shared in omega arith
given_up_shared f stage event t (rows.Unbegun g o shared unwanted fresh) =
    let a = twice o.is_shared in let b : one o.is_shared ≡ 1 = ap one shared in omega arith
given_up_shared f stage event t (rows.Renewed_unbegun g o shared unwanted) =
    let a = twice o.is_shared in let b : one o.is_shared ≡ 1 = ap one shared in omega arith
given_up_shared f stage event t (rows.Renewed_impossible g o impossible shared) =
    let a = twice o.is_shared in let b : one o.is_shared ≡ 1 = ap one shared in omega arith
given_up_shared f stage event t (rows.Unbegun_again g o shared unwanted again) =
    let a = twice o.is_shared in let b : one o.is_shared ≡ 1 = ap one shared in omega arith
given_up_shared f stage event t (rows.Leaves_seeking g shared) = let a : one g.is_shared ≡ 1 = ap one shared in omega arith
given_up_shared f stage event t (rows.Leaves_connecting g r shared) = let a : one g.is_shared ≡ 1 = ap one shared in omega arith
given_up_shared f stage event t (rows.Leaves_exchanging g e shared) = let a : one g.is_shared ≡ 1 = ap one shared in omega arith
given_up_shared f stage event t (rows.Hands_in g o l) =
    let a = hands_count (hands is_unwanted_one) g l.end (brought g (o || l.is_remade) l.end) refl refl in
    let b = shelves_other (hands is_unwanted_one) g l.end (brought g (o || l.is_remade) l.end) refl refl in
    let c = brought_is_wanted g (o || l.is_remade) l.end in
    let d = over_harm harm_shared g l.end (brought g (o || l.is_remade) l.end) in
    omega arith
given_up_shared f stage event t row = omega arith

unoffered : (b : Bool) → (b && false) ≡ false
unoffered true = refl
unoffered false = refl

and_yes : (b : Bool) → (b && true) ≡ b
and_yes true = refl
and_yes false = refl

or_turned : (a b : Bool) → one (not (a || b)) ≡ one (not (b || a))
or_turned true true = refl
or_turned true false = refl
or_turned false true = refl
or_turned false false = refl

-- what the table waits for is what the law counts
pub same_awaited : (event : Event) (f : Flight) (stage : Stage) → is_awaited (at f stage) event ≡ awaits f stage event
same_awaited (events.Ordered o) f stages.Ordering = refl
same_awaited (events.Ordered o) f stages.Renewing = refl
same_awaited (events.Ordered o) f stage = refl
same_awaited (events.Addressed a) f stages.Seeking = refl
same_awaited (events.Addressed a) f stage = refl
same_awaited events.Connected f (stages.Connecting r) = refl
same_awaited events.Connected f stage = refl
same_awaited (events.Began h) f (stages.Exchanging e) = refl
same_awaited (events.Began h) f stages.Ordering = unoffered (f.is_shared && f.is_streamed)
same_awaited (events.Began h) f stages.Renewing = unoffered (f.is_shared && f.is_streamed)
same_awaited (events.Began h) f stages.Seeking = unoffered (f.is_shared && f.is_streamed)
same_awaited (events.Began h) f (stages.Connecting r) = unoffered (f.is_shared && f.is_streamed)
same_awaited (events.Began h) f (stages.Landing l) = unoffered (f.is_shared && f.is_streamed)
same_awaited (events.Began h) f stages.Over = unoffered (f.is_shared && f.is_streamed)
same_awaited (events.Whole p) f (stages.Exchanging e) = refl
same_awaited (events.Whole p) f stage = refl
same_awaited (events.Failed x) f stages.Seeking = refl
same_awaited (events.Failed x) f (stages.Connecting r) = refl
same_awaited (events.Failed x) f (stages.Exchanging e) = refl
same_awaited (events.Failed x) f stage = refl
same_awaited (events.Unwanted is_awaited) f stages.Seeking = and_yes f.is_shared
same_awaited (events.Unwanted is_awaited) f (stages.Connecting r) = and_yes f.is_shared
same_awaited (events.Unwanted is_awaited) f (stages.Exchanging e) = and_yes f.is_shared
same_awaited (events.Unwanted is_awaited) f stages.Ordering = unoffered f.is_shared
same_awaited (events.Unwanted is_awaited) f stages.Renewing = unoffered f.is_shared
same_awaited (events.Unwanted is_awaited) f (stages.Landing l) = unoffered f.is_shared
same_awaited (events.Unwanted is_awaited) f stages.Over = unoffered f.is_shared
same_awaited (events.Locked is_overtaken) f (stages.Landing l) = refl
same_awaited (events.Locked is_overtaken) f stage = refl

pub steps_run_down : (f : Flight) (stage : Stage) (event : Event) (t : Turn) → Row f stage event t → one (is_awaited (at f stage) event) + steps_left t.fetch.stage ≤ steps_left stage + 12 * one (renews event)
steps_run_down f stage event t (rows.Idle g s e idle) = let a : one (is_awaited (at g s) e) ≡ 0 = ap one (same_awaited e g s ∙ idle) in omega arith
steps_run_down f stage event t (rows.Turns g x r has unconnected) = let a : one r.has_other ≡ 1 = ap one has in omega arith
steps_run_down f stage event t (rows.Retries g x e reused none cut) =
    let a : one e.is_reused ≡ 1 = ap one reused in let b = small e.reach.has_other in omega arith
steps_run_down f stage event t (rows.Goes_on g x e has none cut) = let a : one e.reach.has_other ≡ 1 = ap one has in omega arith
steps_run_down f stage event t (rows.Offers g h e shared fresh ok streams long) =
    let a : one (not e.is_offered) ≡ 1 = ap (λ b. one (not b)) fresh in
    let b = small (is_awaited (at g (stages.Exchanging e)) (events.Began h)) in omega arith
steps_run_down f stage event t (rows.Reuses_first g a may kept) = let b = small (may_other g a) in omega arith
steps_run_down f stage event t (rows.Reuses_other g a may kept) = let b = small (may_first g a) in omega arith
steps_run_down f stage event t (rows.Connects_first g a may) = let b = small (may_other g a) in omega arith
steps_run_down f stage event t (rows.Remakes g l first) = let a : one (not l.is_remade) ≡ 1 = ap (λ b. one (not b)) first in omega arith
steps_run_down f stage event t (rows.Renews_seeking g shared) = let a = small (g.is_shared && true) in omega arith
steps_run_down f stage event t (rows.Renews_connecting g r shared) = let a = small (g.is_shared && true) in omega arith
steps_run_down f stage event t (rows.Renews_exchanging g e shared) = let a = small (g.is_shared && true) in omega arith
steps_run_down f stage event t (rows.Leaves_seeking g shared) = let a = small (g.is_shared && true) in omega arith
steps_run_down f stage event t (rows.Leaves_connecting g r shared) = let a = small (g.is_shared && true) in omega arith
steps_run_down f stage event t (rows.Leaves_exchanging g e shared) = let a = small (g.is_shared && true) in omega arith
steps_run_down f stage event t (rows.Hands_in g o l) =
    let b : steps_left (hands_in g l.end (brought g (o || l.is_remade) l.end)).fetch.stage ≡ 0 = ap (λ (x : Fetch). steps_left x.stage) (hands_over g l.end (brought g (o || l.is_remade) l.end)) in
    omega arith
steps_run_down f stage event t row = omega arith

abbrev pub any_event : Event → Bool
any_event event = true

or_small : (a b : Bool) → one (a || b) ≤ one a + one b
or_small true b = omega arith
or_small false b = omega arith

-- nothing is kept or confirmed of a 304 about something else
pub odd_stays : Harmless keeps_or_confirms harm_odd any_event
odd_stays f stage event t (rows.Idle g s e idle) = omega arith
odd_stays f stage event t (rows.Ends g p e) = let a = small (not (is_odd (ends.Whole p))) in omega arith
odd_stays f stage event t (rows.Hands_in g o l) =
    let b = brought g (o || l.is_remade) l.end in
    let a = hands_count keeps_or_confirms g l.end b refl refl in
    let c = shelves_confirmed g l.end b in
    let d = odd_is_unkept g (o || l.is_remade) l.end in
    let e = odd_is_unconfirmed g (o || l.is_remade) l.end in
    let h = over_harm harm_odd g l.end b in
    let i = or_small (is_kept_object b) (comes_from is_confirmed_one b) in
    omega arith
odd_stays f stage event t row = omega arith

-- nothing that a change has overtaken is kept, or given as stale
pub current_stays : Harmless keeps harm_current any_event
current_stays f stage event t (rows.Idle g s e idle) = omega arith
current_stays f stage event t (rows.Remakes g l first) = omega arith
current_stays f stage event t (rows.Hands_in g o l) =
    let b = brought g (o || l.is_remade) l.end in
    let a = hands_count keeps g l.end b refl refl in
    let c = shelves_kept g l.end b in
    let d = kept_is_current g (o || l.is_remade) l.end in
    let e = or_false l.is_remade o in
    let h = over_harm harm_current g l.end b in
    let i = or_turned o l.is_remade in
    omega arith
current_stays f stage event t row = omega arith

pub current_stale : Harmless (hands (comes_from is_stale_one)) harm_current any_event
current_stale f stage event t (rows.Idle g s e idle) = omega arith
current_stale f stage event t (rows.Remakes g l first) = omega arith
current_stale f stage event t (rows.Hands_in g o l) =
    let b = brought g (o || l.is_remade) l.end in
    let a = hands_count (hands (comes_from is_stale_one)) g l.end b refl refl in
    let c = shelves_other (hands (comes_from is_stale_one)) g l.end b refl refl in
    let d = stale_is_current g (o || l.is_remade) l.end in
    let e = or_false l.is_remade o in
    let h = over_harm harm_current g l.end b in
    let i = or_turned o l.is_remade in
    omega arith
current_stale f stage event t row = omega arith

-- what is made known to be changed
idle_lands : (f : Flight) (stage : Stage) (event : Event) → awaits f stage event ≡ false → event ≡ events.Locked true → is_landing stage ≡ true → true ≡ false
idle_lands f (stages.Landing l) (events.Locked o) idle is lands = idle
idle_lands f (stages.Landing l) event idle is lands = absurd (cc)
idle_lands f stage event idle is lands = absurd (cc)

none_of : (o r : Bool) → o ≡ true → one (not (o || r)) ≡ 0
none_of true r e = refl
none_of false r e = absurd (cc)

pub change_keeps : (f : Flight) (stage : Stage) (event : Event) (t : Turn) → Row f stage event t → event ≡ events.Locked true → is_landing stage ≡ true → count_by keeps t.commands + harm_current t.fetch ≡ 0
change_keeps f stage event t (rows.Idle g s e idle) is lands = let a = idle_lands g s e idle is lands in absurd (cc)
change_keeps f stage event t (rows.Remakes g l first) is lands = refl
change_keeps f stage event t (rows.Hands_in g o l) is lands =
    let b = brought g (o || l.is_remade) l.end in
    let a = hands_count keeps g l.end b refl refl in
    let c = shelves_kept g l.end b in
    let d = kept_is_current g (o || l.is_remade) l.end in
    let e = none_of o l.is_remade (cc) in
    let h = over_harm harm_current g l.end b in
    omega arith
change_keeps f stage event t row is lands = absurd (cc)

pub change_stales : (f : Flight) (stage : Stage) (event : Event) (t : Turn) → Row f stage event t → event ≡ events.Locked true → is_landing stage ≡ true → count_by (hands (comes_from is_stale_one)) t.commands + harm_current t.fetch ≡ 0
change_stales f stage event t (rows.Idle g s e idle) is lands = let a = idle_lands g s e idle is lands in absurd (cc)
change_stales f stage event t (rows.Remakes g l first) is lands = refl
change_stales f stage event t (rows.Hands_in g o l) is lands =
    let b = brought g (o || l.is_remade) l.end in
    let a = hands_count (hands (comes_from is_stale_one)) g l.end b refl refl in
    let c = shelves_other (hands (comes_from is_stale_one)) g l.end b refl refl in
    let d = stale_is_current g (o || l.is_remade) l.end in
    let e = none_of o l.is_remade (cc) in
    let h = over_harm harm_current g l.end b in
    omega arith
change_stales f stage event t row is lands = absurd (cc)

-- a 304 about something else has come
idle_ends : (f : Flight) (stage : Stage) (event : Event) (p : Page) → awaits f stage event ≡ false → event ≡ events.Whole p → is_exchanging stage ≡ true → true ≡ false
idle_ends f (stages.Exchanging e) (events.Whole q) p idle is flies = idle
idle_ends f (stages.Exchanging e) event p idle is flies = absurd (cc)
idle_ends f stage event p idle is flies = absurd (cc)

odd_so : (s a : Bool) → s ≡ true → a ≡ false → one (not (s && not a)) ≡ 0
odd_so true false e g = refl
odd_so s a e g = absurd (cc)

pub odd_lands : (f : Flight) (stage : Stage) (event : Event) (t : Turn) (p : Page) → Row f stage event t → event ≡ events.Whole p → is_exchanging stage ≡ true → p.status ≡ 304 → p.is_about ≡ false → count_by keeps_or_confirms t.commands + harm_odd t.fetch ≡ 0
odd_lands f stage event t p (rows.Idle g s e idle) is flies status about = let a = idle_ends g s e p idle is flies in absurd (cc)
odd_lands f stage event t p (rows.Ends g q e) is flies status about =
    let a : q ≡ p = cc in
    let b : (q.status == 304) ≡ true = ap (λ (x : Page). x.status == 304) a ∙ ap (λ (s : ℕ). s == 304) status in
    let c : q.is_about ≡ false = ap (λ (x : Page). x.is_about) a ∙ about in
    let d = odd_so (q.status == 304) q.is_about b c in
    omega arith
odd_lands f stage event t p row is flies status about = absurd (cc)
