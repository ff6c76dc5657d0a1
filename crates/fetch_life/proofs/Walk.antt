-- Each turn of the table is one of its rows.
use Rattle.std.proofs.Common.{◌≡◌, ◌==◌, Bool, true, false, not, ◌&&◌, cond, refl, sym}
use Rattle.fetch_life.specs.declared.facts.Order.{Order}
use Rattle.fetch_life.specs.declared.facts.Addresses.{Addresses}
use Rattle.fetch_life.specs.declared.facts.Failure.{Failure}
use Rattle.fetch_life.specs.declared.facts.Page.{Page}
use Rattle.fetch_life.specs.declared.events.Head.{Head}
use Rattle.fetch_life.specs.declared.events.Event.{Event}
use Rattle.fetch_life.specs.declared.events.Event.TheVariants as events
use Rattle.fetch_life.specs.declared.stages.Flight.{Flight}
use Rattle.fetch_life.specs.declared.stages.Landing.{Landing}
use Rattle.fetch_life.specs.declared.stages.Stage.{Stage}
use Rattle.fetch_life.specs.declared.stages.Stage.TheVariants as stages
use Rattle.fetch_life.specs.Table.{Turn, turn, ordered, addressed, connected, began, whole, failed, locked, is_lost, is_fragile, brought, may_first, may_other, is_connect, is_cut, unwanted}
use Rattle.fetch_life.specs.Rows.{Row}
use Rattle.fetch_life.specs.Rows as rows

-- a choice, by its test
pub split : {A : Type 0} (P : A → Type 0) (b : Bool) (x y : A) → (b ≡ true → P x) → (b ≡ false → P y) → P (cond b x y)
split P true x y f g = f refl
split P false x y f g = g refl

pub both : (a b : Bool) → (a && b) ≡ true → (a ≡ true) × (b ≡ true)
both true true e = (refl, refl)
both true false e = absurd (cc)
both false b e = absurd (cc)

pub not_true : (b : Bool) → not b ≡ true → b ≡ false
not_true true e = sym e
not_true false e = refl

ordered_row : (o : Order) (f : Flight) (stage : Stage) → Row f stage (events.Ordered o) (ordered o f stage)
ordered_row o f stages.Ordering =
    let P : Turn → Type 0 = Row f stages.Ordering (events.Ordered o) in
    split P (o.is_shared && o.is_unwanted) _ _
    (λ t. let h = both o.is_shared o.is_unwanted t in
    split P o.was_unwanted _ _ (λ w. rows.Unbegun_again f o h.0 h.1 w) (λ n. rows.Unbegun f o h.0 h.1 n))
    (λ w. split P o.is_possible _ _ (λ p. rows.Begins f o w p) (λ p. rows.Impossible f o w p))
ordered_row o f stages.Renewing =
    let P : Turn → Type 0 = Row f stages.Renewing (events.Ordered o) in
    split P (o.is_shared && o.is_unwanted) _ _
    (λ t. let h = both o.is_shared o.is_unwanted t in rows.Renewed_unbegun f o h.0 h.1)
    (λ w. split P o.is_possible _ _ (λ p. rows.Renewed f o w p)
    (λ p. split P o.is_shared _ _ (λ s. rows.Renewed_impossible f o p s) (λ s. rows.Renewed_private f o p s)))
ordered_row o f stage = rows.Idle f _ _ refl

addressed_row : (f : Flight) (a : Addresses) (stage : Stage) → Row f stage (events.Addressed a) (addressed f a stage)
addressed_row f a stages.Seeking =
    let P : Turn → Type 0 = Row f stages.Seeking (events.Addressed a) in
    split P (may_first f a && a.is_first_kept) _ _ (λ e. let h = both (may_first f a) a.is_first_kept e in rows.Reuses_first f a h.0 h.1)
    (λ _. split P (may_other f a && a.is_other_kept) _ _ (λ e. let h = both (may_other f a) a.is_other_kept e in rows.Reuses_other f a h.0 h.1)
    (λ _. split P (may_first f a) _ _ (λ e. rows.Connects_first f a e)
    (λ n. split P (may_other f a) _ _ (λ e. rows.Connects_other f a e n) (λ m. rows.Refuses f a n m))))
addressed_row f a stage = rows.Idle f _ _ refl

connected_row : (f : Flight) (stage : Stage) → Row f stage events.Connected (connected f stage)
connected_row f (stages.Connecting r) = rows.Connected f r
connected_row f stage = rows.Idle f _ _ refl

began_row : (f : Flight) (h : Head) (stage : Stage) → Row f stage (events.Began h) (began f h stage)
began_row f h (stages.Exchanging e) =
    split (Row f (stages.Exchanging e) (events.Began h)) ((f.is_shared && f.is_streamed) && (not e.is_offered && ((h.status == 200) && h.is_long))) _ _
    (λ t. let a = both (f.is_shared && f.is_streamed) (not e.is_offered && ((h.status == 200) && h.is_long)) t in
    let b = both f.is_shared f.is_streamed a.0 in
    let c = both (not e.is_offered) ((h.status == 200) && h.is_long) a.1 in
    let d = both (h.status == 200) h.is_long c.1 in
    rows.Offers f h e b.0 (not_true e.is_offered c.0) d.0 b.1 d.1)
    (λ n. rows.Idle f _ _ n)
began_row f h stage = rows.Idle f _ _ refl

whole_row : (f : Flight) (p : Page) (stage : Stage) → Row f stage (events.Whole p) (whole f p stage)
whole_row f p (stages.Exchanging e) = rows.Ends f p e
whole_row f p stage = rows.Idle f _ _ refl

failed_row : (f : Flight) (x : Failure) (stage : Stage) → Row f stage (events.Failed x) (failed f x stage)
failed_row f x stages.Seeking = rows.Fails_seeking f x
failed_row f x (stages.Connecting r) =
    split (Row f (stages.Connecting r) (events.Failed x)) (is_connect x.fault && r.has_other) _ _
    (λ t. let h = both (is_connect x.fault) r.has_other t in rows.Turns f x r h.1 h.0) (λ _. rows.Fails_connecting f x r)
failed_row f x (stages.Exchanging e) =
    let P : Turn → Type 0 = Row f (stages.Exchanging e) (events.Failed x) in
    split P (is_cut x.fault && not x.has_answer) _ _
    (λ t. let k = both (is_cut x.fault) (not x.has_answer) t in
    split P e.is_reused _ _ (λ r. rows.Retries f x e r (not_true x.has_answer k.1) k.0)
    (λ _. split P e.reach.has_other _ _ (λ o. rows.Goes_on f x e o (not_true x.has_answer k.1) k.0) (λ _. rows.Fails_exchanging f x e)))
    (λ _. rows.Fails_exchanging f x e)
failed_row f x stage = rows.Idle f _ _ refl

never : false ≡ true → ⊥
never e = cc

lost_first : (f : Flight) (is_overtaken : Bool) (l : Landing) → is_lost f is_overtaken l ≡ true → (is_overtaken ≡ true) × (l.is_remade ≡ false)
unfolding is_lost
lost_first f is_overtaken l e =
    let h = both is_overtaken (not l.is_remade && is_fragile (brought f false l.end)) e in
    let k = both (not l.is_remade) (is_fragile (brought f false l.end)) h.1 in
    (h.0, not_true l.is_remade k.0)

locked_row : (f : Flight) (is_overtaken : Bool) (stage : Stage) → Row f stage (events.Locked is_overtaken) (locked f is_overtaken stage)
locked_row f true (stages.Landing l) =
    split (Row f (stages.Landing l) (events.Locked true)) (is_lost f true l) _ _
    (λ e. rows.Remakes f l (lost_first f true l e).1) (λ _. rows.Hands_in f true l)
locked_row f false (stages.Landing l) =
    split (Row f (stages.Landing l) (events.Locked false)) (is_lost f false l) _ _
    (λ e. absurd (never (lost_first f false l e).0)) (λ _. rows.Hands_in f false l)
locked_row f is_overtaken stage = rows.Idle f _ _ refl

unwanted_row : (f : Flight) (is_awaited : Bool) (stage : Stage) → Row f stage (events.Unwanted is_awaited) (unwanted f is_awaited stage)
unwanted_row f true stages.Seeking =
    split (Row f stages.Seeking (events.Unwanted true)) f.is_shared _ _ (λ s. rows.Renews_seeking f s) (λ n. rows.Idle f _ _ n)
unwanted_row f false stages.Seeking =
    split (Row f stages.Seeking (events.Unwanted false)) f.is_shared _ _ (λ s. rows.Leaves_seeking f s) (λ n. rows.Idle f _ _ n)
unwanted_row f true (stages.Connecting r) =
    split (Row f (stages.Connecting r) (events.Unwanted true)) f.is_shared _ _ (λ s. rows.Renews_connecting f r s) (λ n. rows.Idle f _ _ n)
unwanted_row f false (stages.Connecting r) =
    split (Row f (stages.Connecting r) (events.Unwanted false)) f.is_shared _ _ (λ s. rows.Leaves_connecting f r s) (λ n. rows.Idle f _ _ n)
unwanted_row f true (stages.Exchanging e) =
    split (Row f (stages.Exchanging e) (events.Unwanted true)) f.is_shared _ _ (λ s. rows.Renews_exchanging f e s) (λ n. rows.Idle f _ _ n)
unwanted_row f false (stages.Exchanging e) =
    split (Row f (stages.Exchanging e) (events.Unwanted false)) f.is_shared _ _ (λ s. rows.Leaves_exchanging f e s) (λ n. rows.Idle f _ _ n)
unwanted_row f is_awaited stage = rows.Idle f _ _ refl

-- each turn is a row
pub turn_row : (f : Flight) (stage : Stage) (event : Event) → Row f stage event (turn f stage event)
turn_row f stage (events.Ordered o) = ordered_row o f stage
turn_row f stage (events.Addressed a) = addressed_row f a stage
turn_row f stage events.Connected = connected_row f stage
turn_row f stage (events.Began h) = began_row f h stage
turn_row f stage (events.Whole p) = whole_row f p stage
turn_row f stage (events.Failed x) = failed_row f x stage
turn_row f stage (events.Unwanted is_awaited) = unwanted_row f is_awaited stage
turn_row f stage (events.Locked is_overtaken) = locked_row f is_overtaken stage
