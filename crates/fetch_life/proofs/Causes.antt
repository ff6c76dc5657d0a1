-- What holds of each row: why something is counted, tried once more, or taken off the shelf, and what stays as it was.
use Rattle.std.proofs.Common.{◌≡◌, ℕ, ◌+◌, ◌*◌, ◌≤◌, ◌<◌, Bool, true, false, not, ◌&&◌, ◌||◌, cond, arith, count_by, refl, sym, ◌∙◌, ap}
use Rattle.fetch_life.specs.declared.facts.Fault.{Fault}
use Rattle.fetch_life.specs.declared.facts.Fault.TheVariants as faults
use Rattle.fetch_life.specs.declared.facts.Source.{Source}
use Rattle.fetch_life.specs.declared.facts.Source.TheVariants.{Origin, Parent, Sibling}
use Rattle.fetch_life.specs.declared.facts.Failure.{Failure}
use Rattle.fetch_life.specs.declared.facts.End.{End}
use Rattle.fetch_life.specs.declared.facts.End.TheVariants as ends
use Rattle.fetch_life.specs.declared.commands.Brought.{Brought}
use Rattle.fetch_life.specs.declared.commands.Command.{Command}
use Rattle.fetch_life.specs.declared.commands.Command.TheVariants as does
use Rattle.fetch_life.specs.declared.events.Event.{Event}
use Rattle.fetch_life.specs.declared.events.Event.TheVariants as events
use Rattle.fetch_life.specs.declared.stages.Fetch.{Fetch}
use Rattle.fetch_life.specs.declared.stages.Flight.{Flight}
use Rattle.fetch_life.specs.declared.stages.Stage.{Stage}
use Rattle.fetch_life.specs.declared.stages.Stage.TheVariants as stages
use Rattle.fetch_life.specs.Table.{Turn, brought, hands_in, is_cut, is_connect, is_sibling, is_too_large}
use Rattle.fetch_life.specs.Rows.{Row, awaits}
use Rattle.fetch_life.specs.Rows as rows
use Rattle.fetch_life.specs.Laws.{is_ask_no_more, is_note_changed, is_not_asking, is_not_private, one, same, counts_as, is_success, is_refusal, is_failure, is_want, is_count, is_answer, is_fault, is_denial, is_desertion, is_cut_off, is_cut_short, is_unreached, is_unconnected, is_either, is_exchanging, is_connecting, is_in_flight, is_under_way, is_unordered, is_unshelve, is_not_telling, is_too_long, is_asked_for_stored, sends_unlike, tries, goes_to, hands, comes_from, is_misnamed, is_question, is_asked, is_told, is_awaited}
use Rattle.fetch_life.proofs.Measures.{harm_telling, is_telling, harm_asking, harm_private}
use Rattle.fetch_life.proofs.Bringing.{brought_is_named}
use Rattle.fetch_life.proofs.Steps.{at, same_awaited, Harmless, over_harm, may_ask_so}
use Rattle.fetch_life.proofs.Handing.{hands_asked, hands_noted, unanswered_asks, changed_is_private, hands_count, hands_over, shelves_other, takes_off}

-- what a result that is handed in does not have done
pub hands_none : (is : Command → Bool) (f : Flight) (end : End) (b : Brought) → is does.Shelve ≡ false → is does.Unshelve ≡ false → is does.AskNoMore ≡ false → is does.NoteChanged ≡ false → is (does.HandIn b) ≡ false → count_by is (hands_in f end b).commands ≡ 0
hands_none is f end b put gone asked noted given =
    let a = hands_count is f end b asked noted in
    let c = shelves_other is f end b put gone in
    let d : one (is (does.HandIn b)) ≡ 0 = ap one given in
    omega arith

-- why an end is counted so
pub success_cause : (f : Flight) (stage : Stage) (event : Event) (t : Turn) → Row f stage event t → 0 < count_by (counts_as is_success) t.commands → is_answer event ≡ true
success_cause f stage event t (rows.Ends g p e) some = refl
success_cause f stage event t (rows.Hands_in g o l) some =
    let a = hands_none (counts_as is_success) g l.end (brought g (o || l.is_remade) l.end) refl refl refl refl refl in absurd (omega arith)
success_cause f stage event t row some = absurd (omega arith)

pub failure_cause : (f : Flight) (stage : Stage) (event : Event) (t : Turn) → Row f stage event t → 0 < count_by (counts_as is_failure) t.commands → is_fault event ≡ true
failure_cause f stage event t (rows.Fails_seeking g x) some = refl
failure_cause f stage event t (rows.Fails_connecting g x r) some = refl
failure_cause f stage event t (rows.Fails_exchanging g x e) some = refl
failure_cause f stage event t (rows.Hands_in g o l) some =
    let a = hands_none (counts_as is_failure) g l.end (brought g (o || l.is_remade) l.end) refl refl refl refl refl in absurd (omega arith)
failure_cause f stage event t row some = absurd (omega arith)

neither : (n a h b : Bool) → (n || a) ≡ false → (h && (n || b)) ≡ false → (not a && not (h && b)) ≡ true
neither false false false b e g = refl
neither false false true false e g = refl
neither n a h b e g = absurd (cc)

pub refusal_cause : (f : Flight) (stage : Stage) (event : Event) (t : Turn) → Row f stage event t → 0 < count_by (counts_as is_refusal) t.commands → is_denial event ≡ true
refusal_cause f stage event t (rows.Refuses g a first other) some = neither _ a.is_first_admitted a.has_other a.is_other_admitted first other
refusal_cause f stage event t (rows.Hands_in g o l) some =
    let a = hands_none (counts_as is_refusal) g l.end (brought g (o || l.is_remade) l.end) refl refl refl refl refl in absurd (omega arith)
refusal_cause f stage event t row some = absurd (omega arith)

and_true : (a b : Bool) → a ≡ true → b ≡ true → (a && b) ≡ true
and_true true b e g = g
and_true false b e g = absurd (cc)

pub want_cause : (f : Flight) (stage : Stage) (event : Event) (t : Turn) → Row f stage event t → 0 < count_by (counts_as is_want) t.commands → is_desertion event ≡ true
want_cause f stage event t (rows.Unbegun g o shared unwanted fresh) some = and_true o.is_shared o.is_unwanted shared unwanted
want_cause f stage event t (rows.Renewed_unbegun g o shared unwanted) some = and_true o.is_shared o.is_unwanted shared unwanted
want_cause f stage event t (rows.Leaves_seeking g shared) some = refl
want_cause f stage event t (rows.Leaves_connecting g r shared) some = refl
want_cause f stage event t (rows.Leaves_exchanging g e shared) some = refl
want_cause f stage event t (rows.Hands_in g o l) some =
    let a = hands_none (counts_as is_want) g l.end (brought g (o || l.is_remade) l.end) refl refl refl refl refl in absurd (omega arith)
want_cause f stage event t row some = absurd (omega arith)

-- what is under way is counted as it ends
goes_on : (stage : Stage) → is_in_flight stage ≡ true → one (is_under_way stage) ≡ 1
goes_on stages.Seeking e = refl
goes_on (stages.Connecting r) e = refl
goes_on (stages.Exchanging x) e = refl
goes_on stage e = absurd (cc)

pub ends_counted : (f : Flight) (stage : Stage) (event : Event) (t : Turn) → Row f stage event t → is_in_flight stage ≡ true → count_by is_count t.commands + one (is_under_way t.fetch.stage) ≡ 1
ends_counted f stage event t (rows.Idle g s e idle) flies = let a = goes_on s flies in omega arith
ends_counted f stage event t (rows.Begins g o wanted possible) flies = absurd (cc)
ends_counted f stage event t (rows.Unbegun g o shared unwanted fresh) flies = absurd (cc)
ends_counted f stage event t (rows.Unbegun_again g o shared unwanted again) flies = absurd (cc)
ends_counted f stage event t (rows.Impossible g o wanted impossible) flies = absurd (cc)
ends_counted f stage event t (rows.Renewed g o wanted possible) flies = absurd (cc)
ends_counted f stage event t (rows.Renewed_unbegun g o shared unwanted) flies = absurd (cc)
ends_counted f stage event t (rows.Renewed_impossible g o impossible shared) flies = absurd (cc)
ends_counted f stage event t (rows.Renewed_private g o impossible owned) flies = absurd (cc)
ends_counted f stage event t (rows.Remakes g l first) flies = absurd (cc)
ends_counted f stage event t (rows.Hands_in g o l) flies = absurd (cc)
ends_counted f stage event t row flies = refl

-- why a server is tried once more
pub same_cut : (fault : Fault) → is_cut_off fault ≡ is_cut fault
same_cut faults.Cut = refl
same_cut fault = refl

pub same_unreached : (fault : Fault) → is_unreached fault ≡ is_connect fault
same_unreached faults.Connect = refl
same_unreached fault = refl

pub cut_so : (x : Failure) → x.has_answer ≡ false → is_cut x.fault ≡ true → (is_cut_off x.fault && not x.has_answer) ≡ true
cut_so x none cut = and_true (is_cut_off x.fault) (not x.has_answer) (same_cut x.fault ∙ cut) (ap not none)

pub again_cause : (f : Flight) (stage : Stage) (event : Event) (t : Turn) → Row f stage event t → is_exchanging stage ≡ true → 0 < count_by tries t.commands → is_cut_short event ≡ true
again_cause f stage event t (rows.Retries g x e reused none cut) flies some = cut_so x none cut
again_cause f stage event t (rows.Goes_on g x e has none cut) flies some = cut_so x none cut
again_cause f stage event t (rows.Reuses_first g a may kept) flies some = absurd (cc)
again_cause f stage event t (rows.Reuses_other g a may kept) flies some = absurd (cc)
again_cause f stage event t (rows.Connects_first g a may) flies some = absurd (cc)
again_cause f stage event t (rows.Connects_other g a may denied) flies some = absurd (cc)
again_cause f stage event t (rows.Connected g r) flies some = absurd (cc)
again_cause f stage event t (rows.Turns g x r has unconnected) flies some = absurd (cc)
again_cause f stage event t (rows.Hands_in g o l) flies some = absurd (cc)
again_cause f stage event t row flies some = absurd (omega arith)

pub turn_cause : (f : Flight) (stage : Stage) (event : Event) (t : Turn) → Row f stage event t → is_connecting stage ≡ true → 0 < count_by (goes_to is_either) t.commands → is_unconnected event ≡ true
turn_cause f stage event t (rows.Turns g x r has unconnected) flies some = same_unreached x.fault ∙ unconnected
turn_cause f stage event t (rows.Retries g x e reused none cut) flies some = absurd (cc)
turn_cause f stage event t (rows.Goes_on g x e has none cut) flies some = absurd (cc)
turn_cause f stage event t (rows.Reuses_first g a may kept) flies some = absurd (cc)
turn_cause f stage event t (rows.Reuses_other g a may kept) flies some = absurd (cc)
turn_cause f stage event t (rows.Connects_first g a may) flies some = absurd (cc)
turn_cause f stage event t (rows.Connects_other g a may denied) flies some = absurd (cc)
turn_cause f stage event t (rows.Hands_in g o l) flies some = absurd (cc)
turn_cause f stage event t row flies some = absurd (omega arith)

-- which fields a request has
sent_like : (s : Source) (b : Bool) → 0 + cond {A = ℕ} (not (same (is_sibling s) (is_asked_for_stored s) && same b b)) 1 0 ≡ 0
sent_like Origin true = refl
sent_like Origin false = refl
sent_like Parent true = refl
sent_like Parent false = refl
sent_like Sibling true = refl
sent_like Sibling false = refl

pub sends_fitting : (f : Flight) (stage : Stage) (event : Event) (t : Turn) → Row f stage event t → count_by (sends_unlike f) t.commands ≡ 0
sends_fitting f stage event t (rows.Reuses_first g a may kept) = sent_like g.source g.is_shared
sends_fitting f stage event t (rows.Reuses_other g a may kept) = sent_like g.source g.is_shared
sends_fitting f stage event t (rows.Connected g r) = sent_like g.source g.is_shared
sends_fitting f stage event t (rows.Hands_in g o l) = hands_none (sends_unlike g) g l.end (brought g (o || l.is_remade) l.end) refl refl refl refl refl
sends_fitting f stage event t row = refl

-- whom what is handed in is said to come from
pub names_fitting : (f : Flight) (stage : Stage) (event : Event) (t : Turn) → Row f stage event t → count_by (hands (comes_from (is_misnamed f.source))) t.commands ≡ 0
names_fitting f stage event t (rows.Hands_in g o l) =
    let b = brought g (o || l.is_remade) l.end in
    let a = hands_count (hands (comes_from (is_misnamed g.source))) g l.end b refl refl in
    let c = shelves_other (hands (comes_from (is_misnamed g.source))) g l.end b refl refl in
    let d = brought_is_named g (o || l.is_remade) l.end in
    omega arith
names_fitting f stage event t row = refl

-- what is on the shelf stays where nothing tells of something else
same_long : (fault : Fault) → is_too_long fault ≡ is_too_large fault
same_long faults.TooLarge = refl
same_long fault = refl

twice : (b : Bool) → one (not (not b)) ≡ one b
twice true = refl
twice false = refl

told : (x : Failure) → one (is_telling (ends.Failed x)) ≡ one (not (not (is_too_long x.fault)))
told x = ap one (sym (same_long x.fault)) ∙ sym (twice (is_too_long x.fault))

pub telling_stays : (f : Flight) (stage : Stage) (event : Event) (t : Turn) → Row f stage event t → count_by is_unshelve t.commands + harm_telling t.fetch ≤ 4 * (harm_telling (record { flight = f; stage = stage }) + one (not (is_not_telling event)))
telling_stays f stage event t (rows.Idle g s e idle) = omega arith
telling_stays f stage event t (rows.Fails_seeking g x) = let a = told x in omega arith
telling_stays f stage event t (rows.Fails_connecting g x r) = let a = told x in omega arith
telling_stays f stage event t (rows.Fails_exchanging g x e) = let a = told x in omega arith
telling_stays f stage event t (rows.Hands_in g o l) =
    let b = brought g (o || l.is_remade) l.end in
    let a = hands_count is_unshelve g l.end b refl refl in
    let c = takes_off g (o || l.is_remade) l.end in
    let d : harm_telling (hands_in g l.end b).fetch ≡ 0 = ap harm_telling (hands_over g l.end b) in
    omega arith
telling_stays f stage event t row = omega arith

-- a fetch stays what was ordered
pub flight_stays : (f : Flight) (stage : Stage) (event : Event) (t : Turn) → Row f stage event t → is_unordered stage ≡ false → t.fetch.flight ≡ f
flight_stays f stage event t (rows.Begins g o wanted possible) ordered = absurd (cc)
flight_stays f stage event t (rows.Unbegun g o shared unwanted fresh) ordered = absurd (cc)
flight_stays f stage event t (rows.Unbegun_again g o shared unwanted again) ordered = absurd (cc)
flight_stays f stage event t (rows.Impossible g o wanted impossible) ordered = absurd (cc)
flight_stays f stage event t (rows.Renewed g o wanted possible) ordered = absurd (cc)
flight_stays f stage event t (rows.Renewed_unbegun g o shared unwanted) ordered = absurd (cc)
flight_stays f stage event t (rows.Renewed_impossible g o impossible shared) ordered = absurd (cc)
flight_stays f stage event t (rows.Renewed_private g o impossible owned) ordered = absurd (cc)
flight_stays f stage event t (rows.Hands_in g o l) ordered = ap (λ (x : Fetch). x.flight) (hands_over g l.end (brought g (o || l.is_remade) l.end))
flight_stays f stage event t row ordered = refl

and_no : (a b : Bool) → b ≡ false → one (a && b) ≡ 0
and_no true b e = ap one e
and_no false b e = refl

-- what is asked is awaited
not_told : (f : Flight) (stage : Stage) (event : Event) → awaits f stage event ≡ false → one (is_asked stage && is_awaited (at f stage) event) ≡ 0
not_told f stage event idle = and_no (is_asked stage) (is_awaited (at f stage) event) (same_awaited event f stage ∙ idle)

idle_tells : (f : Flight) (stage : Stage) (event : Event) → awaits f stage event ≡ false → one (is_told (at f stage) event) ≡ 0
idle_tells f stage (events.Began h) idle = refl
idle_tells f stage (events.Ordered o) idle = not_told f stage (events.Ordered o) idle
idle_tells f stage (events.Addressed a) idle = not_told f stage (events.Addressed a) idle
idle_tells f stage events.Connected idle = not_told f stage events.Connected idle
idle_tells f stage (events.Whole p) idle = not_told f stage (events.Whole p) idle
idle_tells f stage (events.Failed x) idle = not_told f stage (events.Failed x) idle
idle_tells f stage (events.Unwanted is_awaited) idle = not_told f stage (events.Unwanted is_awaited) idle
idle_tells f stage (events.Locked is_overtaken) idle = not_told f stage (events.Locked is_overtaken) idle

left_told : (b : Bool) → b ≡ true → one (b && true) ≡ 1
left_told true e = refl
left_told false e = absurd (cc)

pub asks_balance : (f : Flight) (stage : Stage) (event : Event) (t : Turn) → Row f stage event t → count_by is_question t.commands + one (is_asked stage) ≡ one (is_told (at f stage) event) + one (is_asked t.fetch.stage)
asks_balance f stage event t (rows.Idle g s e idle) = let a = idle_tells g s e idle in omega arith
asks_balance f stage event t (rows.Renews_seeking g shared) = let a = left_told g.is_shared shared in omega arith
asks_balance f stage event t (rows.Renews_connecting g r shared) = let a = left_told g.is_shared shared in omega arith
asks_balance f stage event t (rows.Renews_exchanging g e shared) = let a = left_told g.is_shared shared in omega arith
asks_balance f stage event t (rows.Leaves_seeking g shared) = let a = left_told g.is_shared shared in omega arith
asks_balance f stage event t (rows.Leaves_connecting g r shared) = let a = left_told g.is_shared shared in omega arith
asks_balance f stage event t (rows.Leaves_exchanging g e shared) = let a = left_told g.is_shared shared in omega arith
asks_balance f stage event t (rows.Hands_in g o l) =
    let b = brought g (o || l.is_remade) l.end in
    let a = hands_none is_question g l.end b refl refl refl refl refl in
    let c : one (is_asked (hands_in g l.end b).fetch.stage) ≡ 0 = ap (λ (x : Fetch). one (is_asked x.stage)) (hands_over g l.end b) in
    omega arith
asks_balance f stage event t row = refl

-- what is given up to be asked about, and noted as changed
pub asks_on : Harmless is_ask_no_more harm_asking is_not_asking
asks_on f stage event t (rows.Idle g s e idle) = omega arith
asks_on f stage event t (rows.Begins g o wanted possible) = let a = may_ask_so o in omega arith
asks_on f stage event t (rows.Renewed g o wanted possible) = let a = may_ask_so o in omega arith
asks_on f stage event t (rows.Impossible g o wanted impossible) = let a = may_ask_so o in omega arith
asks_on f stage event t (rows.Renewed_private g o impossible owned) = let a = may_ask_so o in omega arith
asks_on f stage event t (rows.Renewed_impossible g o impossible shared) = let a = may_ask_so o in omega arith
asks_on f stage event t (rows.Unbegun g o shared unwanted fresh) = let a = may_ask_so o in omega arith
asks_on f stage event t (rows.Renewed_unbegun g o shared unwanted) = let a = may_ask_so o in omega arith
asks_on f stage event t (rows.Unbegun_again g o shared unwanted again) = let a = may_ask_so o in omega arith
asks_on f stage event t (rows.Hands_in g o l) =
    let b = brought g (o || l.is_remade) l.end in
    let a = hands_asked g l.end b in
    let c = unanswered_asks g l.end in
    let d = over_harm harm_asking g l.end b in
    omega arith
asks_on f stage event t row = omega arith

pub notes_private : Harmless is_note_changed harm_private is_not_private
notes_private f stage event t (rows.Idle g s e idle) = omega arith
notes_private f stage event t (rows.Hands_in g o l) =
    let b = brought g (o || l.is_remade) l.end in
    let a = hands_noted g l.end b in
    let c = changed_is_private g l.end in
    let d = over_harm harm_private g l.end b in
    omega arith
notes_private f stage event t row = omega arith
