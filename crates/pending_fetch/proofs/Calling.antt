-- The invariant of the fetches and their indexes after each call, and their public view.
use Rattle.std.proofs.Common.{◌≡◌, ℕ, ◌+◌, ◌<◌, ◌≤◌, Bool, true, false, eqb, nat_le, nat_eq, List, [], ◌∷◌, ◌++◌, length, refl, ap, sym, ◌∙◌, subst, arith, ◌==◌, ◌||◌, Some, None, Option, is_some, if◌then◌else◌}
use Rattle.std.specs.Prelude.{Result, Ok, Err, OnOk, OnErr, is_err}
use Rattle.std.proofs.lemmas.Bool.Decides.{nat_tests}
use Rattle.std.specs.List.{list_any, list_all, find, IsDistinct}
use Rattle.std.specs.Option.{option_map}
use Rattle.peer_select.specs.declared.reply.Reply.{Reply}
use Rattle.peer_select.specs.Poll.{Poll}
use Rattle.pending_fetch.specs.Numbers.{next_of, is_taken, IsNext}
use Rattle.pending_fetch.specs.Fetches.{PendingFetch, Fetches, is_shared, shares, shared_number, all_waiters, numbers, starts, waits, waiters_of, left, changed, has_number, with_waiter, with_reply, with_end, with_next, without, fetch_of, next_number, opened_fetch, opened, owner_of}
use Rattle.pending_fetch.specs.Calls.{is_crowded, is_full, join_fault, join_answer, join_list}
use Rattle.pending_fetch.specs.declared.fault.JoinFault.{JoinFault}
use Rattle.pending_fetch.specs.declared.fault.JoinFault.TheVariants.{Full, Double}
use Rattle.pending_fetch.specs.Legal.{IsLegal}
use Rattle.pending_fetch.specs.Places.{IsPlace}
use Rattle.pending_fetch.specs.Indexes.{Keyed, Waiting, number_under, number_beside, number_for, is_number, is_alone, is_sorted, IsIndexed}
use Rattle.pending_fetch.proofs.Words.{Keeps, without-none, numbers-append, numbers-changed, numbers-left, IsLegal-changed, IsLegal-left, IsLegal-joined, IsLegal-push}
use Rattle.pending_fetch.proofs.Places.{place_at}
use Rattle.pending_fetch.proofs.Waits.{IsLegal-without, waits-count}
use Rattle.pending_fetch.proofs.Keyed.{KeepsKey, none_shared, keyed_push, keyed_cut, alone_push, alone_cut, shared-changed, alone-changed}
use Rattle.pending_fetch.proofs.Waiting.{some_number, no_number, wait_push, wait_joined, wait_changed, wait_left, wait_without, own_number, left_one, nobody_left, dropped, as_many}
use Rattle.pending_fetch.proofs.Nexts.{next_is}
use Rattle.std.proofs.lemmas.List.{length-map}
use Rattle.pending_fetch.specs.Bounds.{most_fetches, most_waiters}

-- the public view
abbrev pub seen : ℕ → List PendingFetch → Fetches
seen last list = record { last = last; list = list }

pub put_view : (last : ℕ) (new old : List PendingFetch) (f : List PendingFetch → List PendingFetch) (v : Fetches) → new ≡ f old → seen last old ≡ v →
    seen last new ≡ record v { list = f v.list }
put_view last new old f v e i = ap (seen last) e ∙ ap (λ (w : Fetches). record w { list = f w.list }) i

is_under : (a b : ℕ) → nat_le b a ≡ false → a < b
is_under a b h = grind arith

-- what each change keeps of number, key and owner
pub KeepsKey-reply : (reply : Reply) → KeepsKey (with_reply reply)
KeepsKey-reply reply = record { number = λ f. refl; key = λ f. refl; owner = λ f. refl }

pub KeepsKey-end : KeepsKey with_end
KeepsKey-end = record { number = λ f. refl; key = λ f. refl; owner = λ f. refl }

pub KeepsKey-next : KeepsKey with_next
KeepsKey-next = record {
  number = λ f. elim (eqb f.attempt 65535) as (λ v. (if v then f else record f { attempt = f.attempt + 1 }).number ≡ f.number) [ true ↦ refl | false ↦ refl ];
  key = λ f. elim (eqb f.attempt 65535) as (λ v. (if v then f else record f { attempt = f.attempt + 1 }).key ≡ f.key) [ true ↦ refl | false ↦ refl ];
  owner = λ f. elim (eqb f.attempt 65535) as (λ v. (if v then f else record f { attempt = f.attempt + 1 }).owner ≡ f.owner) [ true ↦ refl | false ↦ refl ];
}

-- the indexes after each call
pub indexed_new : (list : List PendingFetch) (keys : Keyed) (clients : Waiting) → list ≡ [] → ((key : List ℕ) → number_under key keys ≡ None) → clients ≡ [] → IsIndexed list keys clients
unfolding IsDistinct
indexed_new list keys clients e k c =
    let P : List PendingFetch → Type 0 = λ l. IsIndexed l keys clients in
    subst P (sym e) (record {
      legal = record { few = omega arith; uncrowded = omega arith; numbered = tt; once = tt; in_order = refl };
      alone = refl;
      keyed = k;
      waiting = λ client. ap (λ l. number_beside l client) c;
    })

pub indexed_changed : (change : PendingFetch → PendingFetch) (number : ℕ) (list new : List PendingFetch) (keys : Keyed) (clients : Waiting) → Keeps change → KeepsKey change →
    IsIndexed list keys clients → new ≡ changed change number list → IsIndexed new keys clients
indexed_changed change number list new keys clients k kk h e =
    let P : List PendingFetch → Type 0 = λ l. IsIndexed l keys clients in
    subst P (sym e) (record {
      legal = IsLegal-changed change number list k h.legal;
      alone = alone-changed change kk number list ∙ h.alone;
      keyed = λ key. h.keyed key ∙ sym (shared-changed change kk number list key);
      waiting = λ client. h.waiting client ∙ sym (wait_changed change (record { number = k.number; waiters = k.waiters }) number list client);
    })

pub left_is : (client n : ℕ) (list new : List PendingFetch) (keys : Keyed) (clients : Waiting) → IsIndexed list keys clients → number_beside clients client ≡ Some n →
    new ≡ changed (dropped client) n list → new ≡ left client list
left_is client n list new keys clients h e is = is ∙ left_one client n list h.legal.numbered h.legal.once (sym (h.waiting client) ∙ e)

pub indexed_left : (client n : ℕ) (list new : List PendingFetch) (keys : Keyed) (clients after : Waiting) → IsIndexed list keys clients → number_beside clients client ≡ Some n →
    new ≡ changed (dropped client) n list → ((other : ℕ) → number_beside after other ≡ (if client == other then None else number_beside clients other)) → IsIndexed new keys after
indexed_left client n list new keys clients after h e is put =
    let P : List PendingFetch → Type 0 = λ l. IsIndexed l keys after in
    let kk : KeepsKey (dropped client) = record { number = λ f. refl; key = λ f. refl; owner = λ f. refl } in
    let same : changed (dropped client) n list ≡ left client list = left_one client n list h.legal.numbered h.legal.once (sym (h.waiting client) ∙ e) in
    subst P (sym (left_is client n list new keys clients h e is)) (record {
      legal = IsLegal-left client list h.legal;
      alone = ap is_alone (sym same) ∙ alone-changed (dropped client) kk n list ∙ h.alone;
      keyed = λ key. h.keyed key ∙ sym (shared-changed (dropped client) kk n list key) ∙ ap (shared_number key) same;
      waiting = λ other. put other ∙ ap (λ o. if client == other then None else o) (h.waiting other) ∙ wait_left client list other;
    })

pub nobody_is : (client : ℕ) (list : List PendingFetch) (keys : Keyed) (clients : Waiting) → IsIndexed list keys clients → number_beside clients client ≡ None → list ≡ left client list
nobody_is client list keys clients h e =
    sym (nobody_left client list (sym (some_number client list) ∙ ap is_some (sym (h.waiting client) ∙ e)))

pub own_are : (number : ℕ) (f : PendingFetch) (list : List PendingFetch) (keys : Keyed) (clients : Waiting) → IsIndexed list keys clients → fetch_of number list ≡ Some f →
    (other : ℕ) → is_number number (number_beside clients other) ≡ list_any (λ waiter. waiter == other) f.waiters
own_are number f list keys clients h e other = ap (is_number number) (h.waiting other) ∙ own_number number f list h.legal.numbered h.legal.once e other

pub indexed_closed : (number : ℕ) (f : PendingFetch) (list new : List PendingFetch) (keys fewer : Keyed) (clients after : Waiting) → IsIndexed list keys clients → fetch_of number list ≡ Some f →
    new ≡ without number list → ((key : List ℕ) → number_under key fewer ≡ (if shares key f then None else number_under key keys)) →
    ((other : ℕ) → number_beside after other ≡ (if list_any (λ waiter. waiter == other) f.waiters then None else number_beside clients other)) → IsIndexed new fewer after
indexed_closed number f list new keys fewer clients after h e is forgotten put =
    let P : List PendingFetch → Type 0 = λ l. IsIndexed l fewer after in
    let p : IsPlace number list f = place_at list number f h.legal e in
    let alone : is_alone (p.before ++ f ∷ p.after) ≡ true = sym (ap is_alone p.split) ∙ h.alone in
    subst P (sym is) (record {
      legal = IsLegal-without number list h.legal;
      alone = ap is_alone p.closed ∙ alone_cut p.before f p.after alone;
      keyed = λ key. forgotten key ∙ ap (λ o. if shares key f then None else o) (h.keyed key ∙ ap (shared_number key) p.split)
          ∙ keyed_cut p.before f p.after alone key ∙ ap (shared_number key) (sym p.closed);
      waiting = λ other. put other ∙ ap (λ v. if v then None else number_beside clients other) (sym (own_are number f list keys clients h e other))
          ∙ ap (λ o. if is_number number o then None else o) (h.waiting other) ∙ wait_without number list h.legal.once other;
    })

-- a client that doesn't wait leaves
pub indexed_absent : (client : ℕ) (list : List PendingFetch) (keys : Keyed) (clients after : Waiting) → IsIndexed list keys clients → number_beside clients client ≡ None →
    ((other : ℕ) → number_beside after other ≡ (if client == other then None else number_beside clients other)) → IsIndexed list keys after
indexed_absent client list keys clients after h e put = record {
  legal = h.legal;
  alone = h.alone;
  keyed = h.keyed;
  waiting = λ other. put other
      ∙ elim (eqb client other) as (λ v. eqb client other ≡ v → (if v then None else number_beside clients other) ≡ number_beside clients other) [
        | true ↦ λ t. let same : client ≡ other = grind (arith, nat_tests) in sym (ap (number_beside clients) (sym same) ∙ e)
        | false ↦ λ t. refl
      ] refl
      ∙ h.waiting other;
}

pub many_wait : (list : List PendingFetch) (keys : Keyed) (clients : Waiting) → IsIndexed list keys clients → is_sorted clients ≡ true → length clients ≡ length (all_waiters list)
many_wait list keys clients h s = as_many clients list s h.legal.once h.waiting

pub few_wait : (number : ℕ) (list : List PendingFetch) → IsLegal list → length (all_waiters list) < most_waiters → length (waiters_of number list) < most_waiters
few_wait number list h l = omega (arith, waits-count list number h)

-- joining
pub may_join : (client : ℕ) (list : List PendingFetch) → join_fault client list ≡ None → (is_crowded list ≡ false) × (waits client list ≡ false)
may_join client list h =
    elim (is_crowded list) as (λ v. is_crowded list ≡ v → (if v then Some Full else if waits client list then Some Double else None) ≡ None → (is_crowded list ≡ false) × (waits client list ≡ false)) [
      | true ↦ λ t e. absurd cc
      | false ↦ λ t e. (
        t,
        elim (waits client list) as (λ v. waits client list ≡ v → (if v then Some Double else None) ≡ None → waits client list ≡ false) [
          | true ↦ λ u k. absurd cc
          | false ↦ λ u k. u
        ] refl e,
      )
    ] refl h

pub room_left : (list v : List PendingFetch) → list ≡ v → is_crowded v ≡ false → length (all_waiters list) < most_waiters
room_left list v e h = is_under (length (all_waiters list)) most_waiters (ap is_crowded e ∙ h)

pub nobody_beside : (client : ℕ) (list v : List PendingFetch) (keys : Keyed) (clients : Waiting) → IsIndexed list keys clients → list ≡ v → waits client v ≡ false → number_beside clients client ≡ None
nobody_beside client list v keys clients h e absent = h.waiting client ∙ no_number client list (ap (waits client) e ∙ absent)

-- the shared fetch for a key is in the list
or_true : (v : Bool) → (v || true) ≡ true
or_true true = refl
or_true false = refl

shared_there : (key : List ℕ) (n : ℕ) (list : List PendingFetch) → shared_number key list ≡ Some n → has_number n list ≡ true
shared_there key n [] h = absurd cc
shared_there key n (f ∷ list) h =
    elim (shares key f) as (λ v. option_map (λ (g : PendingFetch). g.number) (if v then Some f else find (shares key) list) ≡ Some n → (eqb f.number n || has_number n list) ≡ true) [
      | true ↦ λ e. let same : f.number ≡ n = cc in let here : eqb f.number n ≡ true = grind (arith, nat_tests) in ap (λ v. v || has_number n list) here
      | false ↦ λ e. ap (λ v. eqb f.number n || v) (shared_there key n list e) ∙ or_true (eqb f.number n)
    ] h

pub indexed_joined : (client n : ℕ) (key : List ℕ) (list new v : List PendingFetch) (keys : Keyed) (clients after : Waiting) → IsIndexed list keys clients → list ≡ v →
    number_under key keys ≡ Some n → join_fault client v ≡ None → new ≡ changed (with_waiter client) n list →
    ((other : ℕ) → number_beside after other ≡ (if client == other then Some n else number_beside clients other)) → IsIndexed new keys after
indexed_joined client n key list new v keys clients after h e found free is put =
    let P : List PendingFetch → Type 0 = λ l. IsIndexed l keys after in
    let kk : KeepsKey (with_waiter client) = record { number = λ f. refl; key = λ f. refl; owner = λ f. refl } in
    let may = may_join client v free in
    let has : has_number n list ≡ true = shared_there key n list (sym (h.keyed key) ∙ found) in
    let absent : waits client list ≡ false = ap (waits client) e ∙ may.1 in
    subst P (sym is) (record {
      legal = IsLegal-joined client n list has absent (room_left list v e may.0) h.legal;
      alone = alone-changed (with_waiter client) kk n list ∙ h.alone;
      keyed = λ key. h.keyed key ∙ sym (shared-changed (with_waiter client) kk n list key);
      waiting = λ other. put other ∙ ap (λ o. if client == other then Some n else o) (h.waiting other) ∙ wait_joined n client list has absent other;
    })

pub join_told : (client n : ℕ) (key : List ℕ) (list : List PendingFetch) (fault : Option JoinFault) → shared_number key list ≡ Some n → join_fault client list ≡ fault →
    join_answer (Some n) fault ≡ join_answer (shared_number key list) (join_fault client list)
join_told client n key list fault s j = sym (ap (λ o. join_answer o (join_fault client list)) s ∙ ap (join_answer (Some n)) j)

pub join_seen : (client n : ℕ) (key : List ℕ) (old new v : List PendingFetch) → old ≡ v → shared_number key v ≡ Some n → join_fault client v ≡ None →
    new ≡ changed (with_waiter client) n old → new ≡ join_list client v (shared_number key v) (join_fault client v)
join_seen client n key old new v e s j is =
    is ∙ ap (changed (with_waiter client) n) e ∙ sym (ap (λ o. join_list client v o (join_fault client v)) s ∙ ap (join_list client v (Some n)) j)

pub key_seen : (key given : List ℕ) (list v : List PendingFetch) (keys : Keyed) (clients : Waiting) (r o : Option ℕ) → IsIndexed list keys clients → list ≡ v → r ≡ number_under given keys → given ≡ key → r ≡ o →
    shared_number key v ≡ o
key_seen key given list v keys clients r o h e n g is = sym (ap (shared_number key) e) ∙ sym (h.keyed key) ∙ ap (λ k. number_under k keys) (sym g) ∙ sym n ∙ is

-- the order of opening
pub order_changed : (change : PendingFetch → PendingFetch) → ((f : PendingFetch) → (change f).number ≡ f.number) → (number : ℕ) (order : List ℕ) (old new : List PendingFetch) →
    order ≡ numbers old → new ≡ changed change number old → order ≡ numbers new
order_changed change k number order old new e is = e ∙ sym (ap numbers is ∙ numbers-changed change k number old)

pub order_opened : (number : ℕ) (order more : List ℕ) (old new : List PendingFetch) (f : PendingFetch) → order ≡ numbers old → more ≡ order ++ number ∷ [] → new ≡ old ++ f ∷ [] → f.number ≡ number → more ≡ numbers new
order_opened number order more old new f e put is same =
    put ∙ ap (λ l. l ++ number ∷ []) e ∙ ap (λ n. numbers old ++ n ∷ []) (sym same) ∙ sym (ap numbers is ∙ numbers-append old (f ∷ []))

pub order_room : (order : List ℕ) (list v : List PendingFetch) → order ≡ numbers list → list ≡ v → nat_le most_fetches (length v) ≡ false → length order < most_fetches
order_room order list v e i few =
    let under : length v < most_fetches = is_under (length v) most_fetches few in
    omega (arith, ap length e, ap length i, length-map list (λ (f : PendingFetch). f.number))

-- opening
pub not_full : (list : List PendingFetch) → is_full list ≡ false → (nat_le most_fetches (length list) ≡ false) × (is_crowded list ≡ false)
not_full list h =
    elim (nat_le most_fetches (length list)) as (λ v. (v || is_crowded list) ≡ false → (v ≡ false) × (is_crowded list ≡ false)) [
      | true ↦ λ e. absurd cc
      | false ↦ λ e. (refl, e)
    ] h

pub on_ok : (A E P : Type 0) (r : Result A E) → OnOk r P → is_err r ≡ false → P
on_ok A E P (Ok x) h e = h
on_ok A E P (Err x) h e = absurd cc

pub on_err : (A E P : Type 0) (r : Result A E) → OnErr r P → is_err r ≡ true → P
on_err A E P (Ok x) h e = absurd cc
on_err A E P (Err x) h e = h

-- a fetch opened as shared is the only one with its key
alone_opened : (number : ℕ) (key : List ℕ) (client : ℕ) (shared : Bool) (round : Poll) (list : List PendingFetch) → (shared ≡ true → shared_number key list ≡ None) →
    is_shared (opened_fetch number key client shared round) ≡ true → list_any (shares key) list ≡ false
alone_opened number key client true round list h s = none_shared key list (h refl)
alone_opened number key client false round list h s = absurd cc

pub fetch_opened : (number last : ℕ) (list new : List PendingFetch) (f : PendingFetch) (key : List ℕ) (client : ℕ) (shared : Bool) (round : Poll) (v : Fetches) →
    seen last list ≡ v → new ≡ list ++ f ∷ [] → f ≡ opened_fetch number key client shared round → number ≡ next_number v → seen number new ≡ opened key client shared round v
fetch_opened number last list new f key client shared round v e is fetch next =
    ap (seen number) is ∙ ap (λ g. seen number (list ++ g ∷ [])) fetch
    ∙ ap (λ k. seen k (list ++ opened_fetch k key client shared round ∷ [])) (next ∙ ap next_number (sym e))
    ∙ ap (opened key client shared round) e

pub indexed_opened : (number last : ℕ) (list new : List PendingFetch) (keys more : Keyed) (clients after : Waiting) (f : PendingFetch) (key : List ℕ) (client : ℕ) (shared : Bool) (round : Poll) (v : Fetches) →
    seen last list ≡ v → IsIndexed list keys clients → new ≡ list ++ f ∷ [] → f ≡ opened_fetch number key client shared round → number ≡ next_number v →
    is_full v.list ≡ false → waits client v.list ≡ false → list_all (λ start. nat_le start round.start) (starts v.list) ≡ true → (shared ≡ true → shared_number key v.list ≡ None) →
    ((k : List ℕ) → number_under k more ≡ (if shares k f then Some f.number else number_under k keys)) →
    ((other : ℕ) → number_beside after other ≡ (if client == other then Some number else number_beside clients other)) → IsIndexed new more after
indexed_opened number last list new keys more clients after f key client shared round v e h is fetch next full absent later unshared put join =
    let g : PendingFetch = opened_fetch number key client shared round in
    let P : List PendingFetch → Type 0 = λ l. IsIndexed l more after in
    let same : list ≡ v.list = ap (λ (w : Fetches). w.list) e in
    let free = not_full v.list full in
    let few : length list < most_fetches = is_under (length list) most_fetches (ap (λ l. nat_le most_fetches (length l)) same ∙ free.0) in
    let space : length (all_waiters list) < most_waiters = room_left list v.list same free.1 in
    let size : length (numbers list) ≤ most_fetches = omega (arith, length-map list (λ (f : PendingFetch). f.number), h.legal.few) in
    let next_is_free : IsNext (numbers list) last (next_of (numbers list) last) = next_is (numbers list) last size in
    let unused : is_taken (numbers list) number ≡ false = ap (is_taken (numbers list)) (next ∙ ap next_number (sym e)) ∙ next_is_free.free in
    let nobody : waits client list ≡ false = ap (waits client) same ∙ absent in
    let after_all : list_all (λ start. nat_le start round.start) (starts list) ≡ true = ap (λ l. list_all (λ start. nat_le start round.start) (starts l)) same ∙ later in
    let lone : is_shared g ≡ true → list_any (shares g.key) list ≡ false = alone_opened number key client shared round list (λ s. ap (shared_number key) same ∙ unshared s) in
    subst P (sym (is ∙ ap (λ x. list ++ x ∷ []) fetch)) (record {
      legal = IsLegal-push list g client refl few space unused nobody after_all h.legal;
      alone = alone_push list g h.alone lone;
      keyed = λ k. put k ∙ ap (λ (x : PendingFetch). if shares k x then Some x.number else number_under k keys) fetch
          ∙ ap (λ o. if shares k g then Some number else o) (h.keyed k) ∙ keyed_push list g lone k;
      waiting = λ other. join other ∙ ap (λ o. if client == other then Some number else o) (h.waiting other) ∙ wait_push list g client refl nobody other;
    })

pub indexed_kept : (list new : List PendingFetch) (keys after : Keyed) (clients : Waiting) → IsIndexed list keys clients → new ≡ list → ((k : List ℕ) → number_under k after ≡ number_under k keys) → IsIndexed new after clients
indexed_kept list new keys after clients h is put =
    let P : List PendingFetch → Type 0 = λ l. IsIndexed l after clients in
    subst P (sym is) (record { legal = h.legal; alone = h.alone; keyed = λ k. put k ∙ h.keyed k; waiting = h.waiting })

pub indexed_copied : (list lent new : List PendingFetch) (keys copy : Keyed) (clients after : Waiting) → IsIndexed list keys clients → lent ≡ list → new ≡ list →
    ((key : List ℕ) → number_under key copy ≡ shared_number key lent) → after ≡ clients → IsIndexed new copy after
indexed_copied list lent new keys copy clients after h l e put is =
    let P : List PendingFetch → Type 0 = λ x. IsIndexed x copy after in
    subst P (sym e) (record { legal = h.legal; alone = h.alone; keyed = λ key. put key ∙ ap (shared_number key) l; waiting = λ client. ap (λ w. number_beside w client) is ∙ h.waiting client })

-- whether a number is in the list
pub some_found : {R : Type 0} (g : PendingFetch → R) (number : ℕ) (list : List PendingFetch) → is_some (option_map g (fetch_of number list)) ≡ has_number number list
some_found g number [] = refl
some_found g number (f ∷ list) =
    elim (eqb f.number number) as (λ v. is_some (option_map g (if v then Some f else fetch_of number list)) ≡ (v || has_number number list)) [
      | true ↦ refl
      | false ↦ some_found g number list
    ]

pub gone_already : (number : ℕ) (list new : List PendingFetch) → new ≡ without number list → fetch_of number list ≡ None → new ≡ list
gone_already number list new e h = e ∙ without-none number list (sym (some_found (λ (f : PendingFetch). f) number list) ∙ ap (λ o. is_some (option_map (λ (f : PendingFetch). f) o)) h)

-- the start times of all rounds
pub starts_all : (start : ℕ) (list : List PendingFetch) → list_all (λ (fetch : PendingFetch). nat_le fetch.round.start start) list ≡ list_all (λ one. nat_le one start) (starts list)
starts_all start [] = refl
starts_all start (f ∷ list) = rw (starts_all start list) refl
