-- What is brought and handed in.
use Rattle.std.proofs.Common.{◌≡◌, ◌==◌, ℕ, ◌≤◌, Bool, true, false, not, ◌&&◌, ◌||◌, refl, sym, ◌∙◌, ap, subst, arith}
use Rattle.std.proofs.lemmas.Grind.{common_steps}
use Rattle.fetch_life.specs.declared.facts.Page.{Page}
use Rattle.fetch_life.specs.declared.facts.Source.{Source}
use Rattle.fetch_life.specs.declared.facts.Source.TheVariants.{Origin, Parent, Sibling}
use Rattle.fetch_life.specs.declared.facts.End.{End}
use Rattle.fetch_life.specs.declared.facts.End.TheVariants as ends
use Rattle.fetch_life.specs.declared.commands.Supplier.{Supplier}
use Rattle.fetch_life.specs.declared.commands.Supplier.TheVariants as suppliers
use Rattle.fetch_life.specs.declared.commands.Brought.{Brought}
use Rattle.fetch_life.specs.declared.commands.Brought.TheVariants.{Nothing}
use Rattle.fetch_life.specs.declared.stages.Flight.{Flight}
use Rattle.fetch_life.specs.Table.{brought, brings, is_replaced, is_for_all, is_origin, is_error, is_loss, stands_for, itself, object_of, object, is_kept, supplier_of}
use Rattle.fetch_life.specs.Laws.{one, is_kept_object, comes_from, is_confirmed_one, is_stale_one, is_unwanted_one, is_outage, is_misnamed}
use Rattle.fetch_life.proofs.Measures.{is_confirming, is_down, is_odd, is_storable}
use Rattle.fetch_life.specs.declared.facts.Fault.{Fault}
use Rattle.fetch_life.specs.declared.facts.Fault.TheVariants as faults
use Rattle.fetch_life.proofs.Walk.{split, both, not_true}

-- whatever is brought is one of these
pub record Cases (P : Brought → Type 0) (f : Flight) (o : Bool) (end : End) : Type 0 where
  pub nothing : P Nothing
  pub refused : P (object false suppliers.Nobody)
  pub stale : is_for_all f ≡ true → is_down end ≡ true → o ≡ false → P (object false suppliers.Stale)
  pub confirmed : (p : Page) → f.is_asking ≡ true → is_confirming end ≡ true → is_odd end ≡ false → end ≡ ends.Whole p → P (object (is_kept f o p) suppliers.Confirmed)
  pub by_itself : (p : Page) → end ≡ ends.Whole p → P (object (is_kept f o p && (p.status == 200)) (supplier_of f.source))

object_case : (P : Brought → Type 0) (f : Flight) (o : Bool) (p : Page) (s : Supplier) → P Nothing → P (object (is_kept f o p) s) → P (object_of f o p s)
object_case P f o p s nothing some = split P p.is_object _ _ (λ _. some) (λ _. nothing)

itself_case : (P : Brought → Type 0) (f : Flight) (o : Bool) (p : Page) → P Nothing → P (object (is_kept f o p && (p.status == 200)) (supplier_of f.source)) → P (itself f o p)
itself_case P f o p nothing some = split P p.is_object _ _ (λ _. some) (λ _. nothing)

not_odd : (s a : Bool) → a ≡ true → (s && not a) ≡ false
not_odd true a e = ap not e
not_odd false a e = refl

and_true : (a b : Bool) → a ≡ true → b ≡ true → (a && b) ≡ true
and_true true b e g = g
and_true false b e g = absurd (cc)

stands_case : (P : Brought → Type 0) (f : Flight) (o : Bool) (p : Page) → Cases P f o (ends.Whole p) → P (stands_for f o p)
stands_case P f o p c =
    split P (not (is_origin f.source) && (p.status == 508)) _ _ (λ _. c.nothing)
    (λ _. split P (f.is_asking && (p.status == 412)) _ _ (λ _. c.nothing)
    (λ _. split P (f.is_asking && (p.status == 304)) _ _
    (λ e. let h = both f.is_asking (p.status == 304) e in
    split P p.is_about _ _
    (λ about. object_case P f o p suppliers.Confirmed c.nothing (c.confirmed p h.0 (and_true (p.status == 304) p.is_about h.1 about) (not_odd (p.status == 304) p.is_about about) refl))
    (λ _. c.nothing))
    (λ _. split P ((p.status == 304) && (f.is_shared && f.has_shelf)) _ _ (λ _. c.nothing)
    (λ _. itself_case P f o p c.nothing (c.by_itself p refl)))))

brings_case : (P : Brought → Type 0) (f : Flight) (o : Bool) (end : End) → Cases P f o end → P (brings f o end)
brings_case P f o (ends.Whole p) c = stands_case P f o p c
brings_case P f o ends.Refused c = c.refused
brings_case P f o (ends.Failed x) c = c.nothing

pub same_outage : (fault : Fault) → is_outage fault ≡ is_loss fault
same_outage faults.Lookup = refl
same_outage faults.Connect = refl
same_outage faults.Request = refl
same_outage faults.Cut = refl
same_outage faults.NotHttp = refl
same_outage faults.LargeHead = refl
same_outage faults.TooLarge = refl
same_outage faults.Time = refl
same_outage faults.Room = refl
same_outage faults.Slow = refl
same_outage faults.Cancelled = refl
same_outage faults.NoMemory = refl
same_outage faults.NoFile = refl

replaced_by : (f : Flight) (o : Bool) (end : End) → is_replaced f o end ≡ true → (o ≡ false) × (is_for_all f ≡ true) × (is_down end ≡ true)
replaced_by f o (ends.Whole p) e =
    let h = both (not o) (is_for_all f && (is_error p.status && p.has_stale)) e in
    let k = both (is_for_all f) (is_error p.status && p.has_stale) h.1 in (not_true o h.0, k.0, k.1)
replaced_by f o ends.Refused e = absurd (cc)
replaced_by f o (ends.Failed x) e =
    let h = both (not o) (is_for_all f && (is_loss x.fault && x.has_stale)) e in
    let k = both (is_for_all f) (is_loss x.fault && x.has_stale) h.1 in (not_true o h.0, k.0, ap (λ b. b && x.has_stale) (same_outage x.fault) ∙ k.1)

pub brought_case : (P : Brought → Type 0) (f : Flight) (o : Bool) (end : End) → Cases P f o end → P (brought f o end)
unfolding brought
brought_case P f o end c =
    split P (is_replaced f o end) _ _
    (λ e. let h = replaced_by f o end e in c.stale h.1 h.2 h.0)
    (λ _. brings_case P f o end c)

-- what is kept of it
kept_by : (s m o h : Bool) → (one (s && (m && (not o && not h))) ≤ one s) × (one (s && (m && (not o && not h))) ≤ one (not o))
kept_by false m o h = (omega arith, omega arith)
kept_by true false o h = (omega arith, omega arith)
kept_by true true true h = (omega arith, omega arith)
kept_by true true false true = (omega arith, omega arith)
kept_by true true false false = (omega arith, omega arith)

kept_if : (f : Flight) (o : Bool) (p : Page) → (one (is_kept f o p) ≤ one f.is_shared) × (one (is_kept f o p) ≤ one (not o))
kept_if f o p = kept_by f.is_shared p.may_keep o p.hides_rules

and_small : (k b : Bool) (n : ℕ) → one k ≤ n → one (k && b) ≤ n
and_small true true n e = e
and_small true false n e = omega arith
and_small false b n e = e

pub kept_is_shared : (f : Flight) (o : Bool) (end : End) → one (is_kept_object (brought f o end)) ≤ one f.is_shared
kept_is_shared f o end =
    brought_case (λ b. one (is_kept_object b) ≤ one f.is_shared) f o end
    (record { nothing = omega arith; refused = omega arith; stale = λ _ _ _. omega arith; confirmed = λ p _ _ _ _. (kept_if f o p).0; by_itself = λ p _. and_small (is_kept f o p) (p.status == 200) _ (kept_if f o p).0 })

pub kept_is_current : (f : Flight) (o : Bool) (end : End) → one (is_kept_object (brought f o end)) ≤ one (not o)
kept_is_current f o end =
    brought_case (λ b. one (is_kept_object b) ≤ one (not o)) f o end
    (record { nothing = omega arith; refused = omega arith; stale = λ _ _ _. omega arith; confirmed = λ p _ _ _ _. (kept_if f o p).1; by_itself = λ p _. and_small (is_kept f o p) (p.status == 200) _ (kept_if f o p).1 })

at_least : (b : Bool) → b ≡ true → 1 ≤ one b
at_least true e = omega arith
at_least false e = absurd (cc)

no_confirmed : (s : Source) → one (is_confirmed_one (supplier_of s)) ≡ 0
no_confirmed Origin = refl
no_confirmed Parent = refl
no_confirmed Sibling = refl

no_stale : (s : Source) → one (is_stale_one (supplier_of s)) ≡ 0
no_stale Origin = refl
no_stale Parent = refl
no_stale Sibling = refl

pub confirmed_is_asked : (f : Flight) (o : Bool) (end : End) → one (comes_from is_confirmed_one (brought f o end)) ≤ one f.is_asking
confirmed_is_asked f o end =
    brought_case (λ b. one (comes_from is_confirmed_one b) ≤ one f.is_asking) f o end
    (record { nothing = omega arith; refused = omega arith; stale = λ _ _ _. omega arith; confirmed = λ p a _ _ _. at_least f.is_asking a; by_itself = λ p _. let e = no_confirmed f.source in omega arith })

pub confirmed_is_about : (f : Flight) (o : Bool) (end : End) → one (comes_from is_confirmed_one (brought f o end)) ≤ one (is_confirming end)
confirmed_is_about f o end =
    brought_case (λ b. one (comes_from is_confirmed_one b) ≤ one (is_confirming end)) f o end
    (record { nothing = omega arith; refused = omega arith; stale = λ _ _ _. omega arith; confirmed = λ p _ a _ _. at_least (is_confirming end) a; by_itself = λ p _. let e = no_confirmed f.source in omega arith })

for_all_is : (f : Flight) → is_for_all f ≡ true → (1 ≤ one f.is_shared) × (1 ≤ one (is_origin f.source))
for_all_is f e = let h = both (is_origin f.source) f.is_shared e in (at_least f.is_shared h.1, at_least (is_origin f.source) h.0)

pub stale_is_shared : (f : Flight) (o : Bool) (end : End) → one (comes_from is_stale_one (brought f o end)) ≤ one f.is_shared
stale_is_shared f o end =
    brought_case (λ b. one (comes_from is_stale_one b) ≤ one f.is_shared) f o end
    (record { nothing = omega arith; refused = omega arith; stale = λ a _ _. (for_all_is f a).0; confirmed = λ p _ _ _ _. omega arith; by_itself = λ p _. let e = no_stale f.source in omega arith })

pub stale_is_of_origin : (f : Flight) (o : Bool) (end : End) → one (comes_from is_stale_one (brought f o end)) ≤ one (is_origin f.source)
stale_is_of_origin f o end =
    brought_case (λ b. one (comes_from is_stale_one b) ≤ one (is_origin f.source)) f o end
    (record { nothing = omega arith; refused = omega arith; stale = λ a _ _. (for_all_is f a).1; confirmed = λ p _ _ _ _. omega arith; by_itself = λ p _. let e = no_stale f.source in omega arith })

pub stale_is_current : (f : Flight) (o : Bool) (end : End) → one (comes_from is_stale_one (brought f o end)) ≤ one (not o)
stale_is_current f o end =
    brought_case (λ b. one (comes_from is_stale_one b) ≤ one (not o)) f o end
    (record { nothing = omega arith; refused = omega arith; stale = λ _ _ c. at_least (not o) (ap not c); confirmed = λ p _ _ _ _. omega arith; by_itself = λ p _. let e = no_stale f.source in omega arith })

pub stale_is_down : (f : Flight) (o : Bool) (end : End) → one (comes_from is_stale_one (brought f o end)) ≤ one (is_down end)
stale_is_down f o end =
    brought_case (λ b. one (comes_from is_stale_one b) ≤ one (is_down end)) f o end
    (record { nothing = omega arith; refused = omega arith; stale = λ _ d _. at_least (is_down end) d; confirmed = λ p _ _ _ _. omega arith; by_itself = λ p _. let e = no_stale f.source in omega arith })

-- nothing that has ended by itself is given up for want of clients
pub brought_is_wanted : (f : Flight) (o : Bool) (end : End) → one (is_unwanted_one (brought f o end)) ≡ 0
brought_is_wanted f o end =
    brought_case (λ b. one (is_unwanted_one b) ≡ 0) f o end
    (record { nothing = refl; refused = refl; stale = λ _ _ _. refl; confirmed = λ p _ _ _ _. refl; by_itself = λ p _. refl })

-- a 304 about something else is neither kept nor confirms
only_one : (s : ℕ) → (s == 200) ≡ true → (s == 304) ≡ false
only_one s e = grind (arith, common_steps)

two_cases : (a b c : Bool) → (a ≡ true → b ≡ false) → one a ≤ one (not (b && c))
two_cases false b c e = omega arith
two_cases true b c e = at_least (not (b && c)) (ap (λ v. not (v && c)) (e refl))

small_one : (b : Bool) → one b ≤ 1
small_one true = omega arith
small_one false = omega arith

odd_unkept : (k : Bool) (p : Page) → one (k && (p.status == 200)) ≤ one (not (is_odd (ends.Whole p)))
odd_unkept false p = omega arith
odd_unkept true p = two_cases (p.status == 200) (p.status == 304) (not p.is_about) (only_one p.status)

pub odd_is_unkept : (f : Flight) (o : Bool) (end : End) → one (is_kept_object (brought f o end)) ≤ one (not (is_odd end))
odd_is_unkept f o end =
    brought_case (λ b. one (is_kept_object b) ≤ one (not (is_odd end))) f o end
    (record {
      nothing = omega arith;
      refused = omega arith;
      stale = λ _ _ _. omega arith;
      confirmed = λ p _ _ c _. let e = at_least (not (is_odd end)) (ap not c) in let g = small_one (is_kept f o p) in omega arith;
      by_itself = λ p e. subst (λ x. one (is_kept f o p && (p.status == 200)) ≤ one (not (is_odd x))) (sym e) (odd_unkept (is_kept f o p) p);
    })

pub odd_is_unconfirmed : (f : Flight) (o : Bool) (end : End) → one (comes_from is_confirmed_one (brought f o end)) ≤ one (not (is_odd end))
odd_is_unconfirmed f o end =
    brought_case (λ b. one (comes_from is_confirmed_one b) ≤ one (not (is_odd end))) f o end
    (record {
      nothing = omega arith;
      refused = omega arith;
      stale = λ _ _ _. omega arith;
      confirmed = λ p _ _ c _. at_least (not (is_odd end)) (ap not c);
      by_itself = λ p _. let e = no_confirmed f.source in omega arith;
    })

-- whom it is said to come from
well_named : (s : Source) → one (is_misnamed s (supplier_of s)) ≡ 0
well_named Origin = refl
well_named Parent = refl
well_named Sibling = refl

own_named : (s : Source) → (one (is_misnamed s suppliers.Nobody) ≡ 0) × (one (is_misnamed s suppliers.Stale) ≡ 0) × (one (is_misnamed s suppliers.Confirmed) ≡ 0)
own_named Origin = (refl, refl, refl)
own_named Parent = (refl, refl, refl)
own_named Sibling = (refl, refl, refl)

pub brought_is_named : (f : Flight) (o : Bool) (end : End) → one (comes_from (is_misnamed f.source) (brought f o end)) ≡ 0
brought_is_named f o end =
    let n = own_named f.source in
    brought_case (λ b. one (comes_from (is_misnamed f.source) b) ≡ 0) f o end
    (record { nothing = refl; refused = n.0; stale = λ _ _ _. n.1; confirmed = λ p _ _ _ _. n.2; by_itself = λ p _. well_named f.source })

-- what is kept may be stored
kept_page : (s m o h e t a : Bool) → one ((s && (m && (not o && not h))) && e) ≤ one (m && (not h && (e || (t && a))))
kept_page false m o h e t a = omega arith
kept_page true false o h e t a = omega arith
kept_page true true true h e t a = omega arith
kept_page true true false true e t a = omega arith
kept_page true true false false false t a = omega arith
kept_page true true false false true t a = omega arith

kept_confirmed : (s m o h e t a : Bool) → (t && a) ≡ true → one (s && (m && (not o && not h))) ≤ one (m && (not h && (e || (t && a))))
kept_confirmed false m o h e t a g = omega arith
kept_confirmed true false o h e t a g = omega arith
kept_confirmed true true true h e t a g = omega arith
kept_confirmed true true false true e t a g = omega arith
kept_confirmed true true false false true t a g = omega arith
kept_confirmed true true false false false true true g = omega arith
kept_confirmed true true false false false true false g = absurd (cc)
kept_confirmed true true false false false false a g = absurd (cc)

pub kept_is_storable : (f : Flight) (o : Bool) (end : End) → one (is_kept_object (brought f o end)) ≤ one (is_storable end)
kept_is_storable f o end =
    brought_case (λ b. one (is_kept_object b) ≤ one (is_storable end)) f o end
    (record {
      nothing = omega arith;
      refused = omega arith;
      stale = λ _ _ _. omega arith;
      confirmed = λ p _ c _ e. subst (λ x. one (is_kept f o p) ≤ one (is_storable x)) (sym e) (kept_confirmed f.is_shared p.may_keep o p.hides_rules (p.status == 200) (p.status == 304) p.is_about (subst (λ x. is_confirming x ≡ true) e c));
      by_itself = λ p e. subst (λ x. one (is_kept f o p && (p.status == 200)) ≤ one (is_storable x)) (sym e) (kept_page f.is_shared p.may_keep o p.hides_rules (p.status == 200) (p.status == 304) p.is_about);
    })
