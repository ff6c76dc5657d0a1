-- Turns that follow one another.
use Rattle.std.proofs.Common.{◌≡◌, ◌<◌, ◌≤◌, ◌⊎◌, inl, inr, ℕ, ◌+◌, ◌*◌, Bool, true, false, not, length, take, drop, map, filter, get_or, List, [], ◌∷◌, ◌++◌, Option, Some, None, refl, ap, sym, ◌∙◌, subst, append_assoc, append-nil, arith}
use Rattle.std.proofs.lemmas.Bool.Decides.{nat_tests}
use Rattle.std.proofs.lemmas.List.{map-append, length-append, length-map, take_more, take-append-drop}
use Rattle.std.proofs.lemmas.List.Elements.{filter-append}
use Rattle.std.proofs.lemmas.List.Filters.{length-filter_both}
use Rattle.node_words.specs.declared.action.Action.{Action}
use Rattle.node_words.specs.declared.action.Action.TheVariants.{Send, Fetch, Serve}
use Rattle.node_core.specs.Counters.{plus}
use Rattle.node_core.specs.Happening.{Happening}
use Rattle.node_core.specs.State.{State, HasTaken}
use Rattle.plain_node.specs.Memory.{is_no_send}
use Rattle.mio_queries.specs.declared.pumped.Pumped.{Pumped}
use Rattle.mio_queries.specs.declared.traffic.Sending.{Sending}
use Rattle.plain_node.specs.Tally.{tally_of}
use Rattle.node_book.specs.Seats.{Held, claim}
use Rattle.node_book.specs.Told.{Owned, Told, Takes, Receives, Submits, passing}
use Rattle.mio_queries.specs.Traffic.{Receipt, came, idled, Traffic, grown}
use Rattle.mio_queries.specs.Pumping.{event_of, is_datagram, sendings, others, joined, Try, attempted, gone, failures, NodeServes, AreCredited, SeatServes, HasServed, Runs, Counts, nothing, Carries, Pumps, CountsAll, Makes, LosesWire, AllButLast, Breaks}
use Rattle.plain_node.specs.Bounds.{most_actions}

-- definitions over a concatenation are those over its parts
abbrev pub Appends : Type 0
Appends = (old mid new : State) (events more : List Happening) (outs lists : List (List Action)) → HasTaken old mid events outs → HasTaken mid new more lists → HasTaken old new (events ++ more) (outs ++ lists)

-- counts

pub plus-plus : (c a b : ℕ) → plus (plus c a) b ≡ plus c (a + b)
plus-plus c a b = grind (arith, nat_tests)

plus-twice : (c d e a b n : ℕ) → d ≡ plus c a → e ≡ plus d b → n ≡ a + b → e ≡ plus c n
plus-twice c d e a b n p q r = rw (q, p, r) (plus-plus c a b)

-- lists

pub grown-nil : {A : Type 0} (list : Option (List A)) → list ≡ grown list []
grown-nil None = refl
grown-nil (Some xs) = ap Some (sym (append-nil xs))

grown-append : {A : Type 0} (list : Option (List A)) (xs ys : List A) → grown (grown list xs) ys ≡ grown list (xs ++ ys)
grown-append None xs ys = refl
grown-append (Some list) xs ys = ap Some (append_assoc list xs ys)

grown-twice : {A : Type 0} (a b c : Option (List A)) (xs ys : List A) → b ≡ grown a xs → c ≡ grown b ys → c ≡ grown a (xs ++ ys)
grown-twice {A} a b c xs ys p q = q ∙ ap (λ (l : Option (List A)). grown l ys) p ∙ grown-append a xs ys

sendings-append : (xs ys : List Action) → sendings (xs ++ ys) ≡ sendings xs ++ sendings ys
sendings-append [] ys = refl
sendings-append (Send socket to payload ∷ xs) ys = rw (sendings-append xs ys) refl
sendings-append (Fetch fetch attempt source only_if_cached owner ∷ xs) ys = sendings-append xs ys
sendings-append (Serve client answer ∷ xs) ys = sendings-append xs ys

others-append : (xs ys : List Action) → others (xs ++ ys) ≡ others xs ++ others ys
others-append xs ys = filter-append is_no_send xs ys

joined-append : (xs ys : List (List Action)) → joined (xs ++ ys) ≡ joined xs ++ joined ys
joined-append [] ys = refl
joined-append (x ∷ xs) ys = ap (λ l. x ++ l) (joined-append xs ys) ∙ sym (append_assoc x (joined xs) (joined ys))

attempted-append : (xs ys : List Try) → attempted (xs ++ ys) ≡ attempted xs ++ attempted ys
attempted-append xs ys = map-append (λ (t : Try). t.sending) xs ys

gone-append : (xs ys : List Try) → gone (xs ++ ys) ≡ gone xs ++ gone ys
gone-append xs ys = ap attempted (filter-append (λ (t : Try). t.went) xs ys) ∙ attempted-append (filter (λ (t : Try). t.went) xs) (filter (λ (t : Try). t.went) ys)

length-filter-append : {A : Type 0} (test : A → Bool) (xs ys : List A) → length (filter test (xs ++ ys)) ≡ length (filter test xs) + length (filter test ys)
length-filter-append test xs ys = ap length (filter-append test xs ys) ∙ length-append (filter test xs) (filter test ys)

failures-append : (xs ys : List Try) → failures (xs ++ ys) ≡ failures xs + failures ys
failures-append xs ys = length-filter-append (λ (t : Try). not t.went) xs ys

sends-twice : (xs ys : List Try) (a b : List Action) → attempted xs ≡ sendings a → attempted ys ≡ sendings b → attempted (xs ++ ys) ≡ sendings (a ++ b)
sends-twice xs ys a b p q = attempted-append xs ys ∙ ap (λ (l : List Sending). l ++ attempted ys) p ∙ ap (λ (l : List Sending). sendings a ++ l) q ∙ sym (sendings-append a b)

sent-twice : (a b c : Option (List Sending)) (xs ys : List Try) → b ≡ grown a (gone xs) → c ≡ grown b (gone ys) → c ≡ grown a (gone (xs ++ ys))
sent-twice a b c xs ys p q = grown-twice a b c (gone xs) (gone ys) p q ∙ ap (λ (l : List Sending). grown a l) (sym (gone-append xs ys))

fails-twice : (c d e : ℕ) (xs ys : List Try) (f : ℕ) → d ≡ plus c (failures xs) → e ≡ plus d (failures ys + f) → e ≡ plus c (failures (xs ++ ys) + f)
fails-twice c d e xs ys f p q = plus-twice c d e (failures xs) (failures ys + f) (failures (xs ++ ys) + f) p q (omega (arith, failures-append xs ys))

-- what is counted

pub counts-none : (from to : Pumped) → from ≡ to → Counts from to [] []
counts-none from to e = record { datagrams = ap (λ (p : Pumped). p.received) (sym e); idles = ap (λ (p : Pumped). p.idle) (sym e); sends = ap (λ (p : Pumped). p.sent) (sym e); fails = ap (λ (p : Pumped). p.failed) (sym e) }

pub counts-append : (a b c : Pumped) (xs ys : List Receipt) (s t : List Try) → Counts a b xs s → Counts b c ys t → Counts a c (xs ++ ys) (s ++ t)
counts-append a b c xs ys s t p q =
    let is_idle : Receipt → Bool = λ r. not (is_datagram r) in
    record {
      datagrams = plus-twice a.received b.received c.received (length (filter is_datagram xs)) (length (filter is_datagram ys)) (length (filter is_datagram (xs ++ ys))) p.datagrams q.datagrams (length-filter-append is_datagram xs ys);
      idles = plus-twice a.idle b.idle c.idle (length (filter is_idle xs)) (length (filter is_idle ys)) (length (filter is_idle (xs ++ ys))) p.idles q.idles (length-filter-append is_idle xs ys);
      sends = plus-twice a.sent b.sent c.sent (length (gone s)) (length (gone t)) (length (gone (s ++ t))) p.sends q.sends (ap length (gone-append s t) ∙ length-append (gone s) (gone t));
      fails = plus-twice a.failed b.failed c.failed (failures s) (failures t) (failures (s ++ t)) p.fails q.fails (failures-append s t);
    }

-- actions

pub passing_none : (told : Told) → told ≡ passing [] told
passing_none told = ap (λ (l : Option (List Action)). record told { passed = l }) (grown-nil told.passed)

passing-twice : (a b c : Told) (xs ys : List Action) → b ≡ passing (others xs) a → c ≡ passing (others ys) b → c ≡ passing (others (xs ++ ys)) a
passing-twice a b c xs ys p q =
    q ∙ ap (passing (others ys)) p ∙ ap (λ (l : Option (List Action)). record a { passed = l }) (grown-append a.passed (others xs) (others ys) ∙ ap (λ (l : List Action). grown a.passed l) (sym (others-append xs ys)))

pub carries-append : (a b c : Traffic) (d e f : Told) (g h i : Pumped) (xs ys : List Action) → Carries a b d e g h xs → Carries b c e f h i ys → Carries a c d f g i (xs ++ ys)
carries-append a b c d e f g h i xs ys p q = record {
  tries = p.tries ++ q.tries;
  sends = sends-twice p.tries q.tries xs ys p.sends q.sends;
  received = q.received ∙ p.received;
  sent = sent-twice a.sent b.sent c.sent p.tries q.tries p.sent q.sent;
  counted = plus-twice a.faults b.faults c.faults (failures p.tries) (failures q.tries) (failures (p.tries ++ q.tries)) p.counted q.counted (failures-append p.tries q.tries);
  passed = passing-twice d e f xs ys p.passed q.passed;
  counts = counts-append g h i [] [] p.tries q.tries p.counts q.counts;
}

-- a prefix with one more
pub carries-more : (a b c : Traffic) (d e f : Told) (g h i : Pumped) (actions : List Action) (action : Action) (n : ℕ) → n < length actions → action ≡ get_or actions n action → Carries a b d e g h (take n actions) → Carries b c e f h i (action ∷ []) → Carries a c d f g i (take (n + 1) actions)
carries-more a b c d e f g h i actions action n lt is p q =
    let front : take (n + 1) actions ≡ take n actions ++ action ∷ [] = take_more actions n action lt ∙ ap (λ (x : Action). take n actions ++ x ∷ []) (sym is) in
    rw front (carries-append a b c d e f g h i (take n actions) (action ∷ []) p q)

pub carries-same : (a b c : Traffic) (d e f : Told) (g h i : Pumped) (xs : List Action) → Carries a b d e g h xs → Carries b c e f h i [] → Carries a c d f g i xs
carries-same a b c d e f g h i xs p q =
    let P : List Action → Type 0 = λ l. Carries a c d f g i l in
    subst P (append-nil xs) (carries-append a b c d e f g h i xs [] p q)

-- what a clerk took

taken-none : (state : State) → HasTaken state state [] []
taken-none state = record { plain = refl; filters = refl; stats = refl; sent = refl }

node-none : (node : Option Owned) → NodeServes node node [] []
node-none None = tt
node-none (Some owned) = record { taken = taken-none owned.state; next = omega arith }

seat-none : (seat : Option Held) → SeatServes seat seat [] []
seat-none None = tt
seat-none (Some held) = refl

pub served-none : (told : Told) → HasServed told told [] [] []
served-none told = record { node = node-none told.node; seat = seat-none told.seat; passed = grown-nil told.passed }

node-one : (a b : Option Owned) (number : ℕ) (event : Happening) (actions : List Action) → Takes a b number event actions → NodeServes a b (event ∷ []) (actions ∷ [])
node-one None None number event actions t = tt
node-one None (Some b) number event actions t = absurd t
node-one (Some a) None number event actions t = absurd t
node-one (Some a) (Some b) number event actions t = record { taken = t.taken; next = t.next }

seat-one : (a b : Option Held) (number : ℕ) (event : Happening) (actions : List Action) → Receives a b (claim number event (tally_of actions)) → SeatServes a b (event ∷ []) (actions ∷ [])
seat-one None None number event actions r = tt
seat-one None (Some b) number event actions r = absurd r
seat-one (Some a) None number event actions r = absurd r
seat-one (Some a) (Some b) number event actions r = (number, b, r, refl)

pub served_one : (a b : Told) (number : ℕ) (event : Happening) (actions : List Action) → Submits a b number event actions → HasServed a b (event ∷ []) (actions ∷ []) []
served_one a b number event actions s = record {
  node = node-one a.node b.node number event actions s.node;
  seat = seat-one a.seat b.seat number event actions s.seat;
  passed = s.passed ∙ grown-nil a.passed;
}

served-passed : (a b c : Told) (events : List Happening) (outs : List (List Action)) (xs ys : List Action) → HasServed a b events outs xs → c ≡ passing ys b → HasServed a c events outs (xs ++ ys)
served-passed a b c events outs xs ys s p =
    let P : Told → Type 0 = λ t. HasServed a t events outs (xs ++ ys) in
    subst P (sym p) (record { node = s.node; seat = s.seat; passed = grown-twice a.passed b.passed (grown b.passed ys) xs ys s.passed refl })

node-append : Appends → (a b c : Option Owned) (events more : List Happening) (outs lists : List (List Action)) → NodeServes a b events outs → NodeServes b c more lists → NodeServes a c (events ++ more) (outs ++ lists)
node-append law None None None events more outs lists s t = tt
node-append law None None (Some c) events more outs lists s t = t
node-append law None (Some b) c events more outs lists s t = absurd s
node-append law (Some a) None c events more outs lists s t = absurd s
node-append law (Some a) (Some b) None events more outs lists s t = t
node-append law (Some a) (Some b) (Some c) events more outs lists s t = record {
  taken = law a.state b.state c.state events more outs lists s.taken t.taken;
  next = omega (arith, s.next, t.next, length-append events more);
}

credited-append : (a b c : Held) (events more : List Happening) (outs lists : List (List Action)) → AreCredited a b events outs → AreCredited b c more lists → AreCredited a c (events ++ more) (outs ++ lists)
credited-append a b c [] more [] lists s t = subst (λ (x : Held). AreCredited x c more lists) s t
credited-append a b c [] more (actions ∷ outs) lists s t = absurd s
credited-append a b c (event ∷ events) more [] lists s t = absurd s
credited-append a b c (event ∷ events) more (actions ∷ outs) lists s t = (s.0, s.1, s.2, credited-append s.1 b c events more outs lists s.3 t)

seat-append : (a b c : Option Held) (events more : List Happening) (outs lists : List (List Action)) → SeatServes a b events outs → SeatServes b c more lists → SeatServes a c (events ++ more) (outs ++ lists)
seat-append None None None events more outs lists s t = tt
seat-append None None (Some c) events more outs lists s t = t
seat-append None (Some b) c events more outs lists s t = absurd s
seat-append (Some a) None c events more outs lists s t = absurd s
seat-append (Some a) (Some b) None events more outs lists s t = t
seat-append (Some a) (Some b) (Some c) events more outs lists s t = credited-append a b c events more outs lists s t

served-append : Appends → (a b c : Told) (events more : List Happening) (outs lists : List (List Action)) (xs ys : List Action) → HasServed a b events outs xs → HasServed b c more lists ys → HasServed a c (events ++ more) (outs ++ lists) (xs ++ ys)
served-append law a b c events more outs lists xs ys s t = record {
  node = node-append law a.node b.node c.node events more outs lists s.node t.node;
  seat = seat-append a.seat b.seat c.seat events more outs lists s.seat t.seat;
  passed = grown-twice a.passed b.passed c.passed xs ys s.passed t.passed;
}

-- runs

pub runs-append : Appends → (a b c : Traffic) (d e f : Told) (r s t : List Receipt) (outs lists : List (List Action)) (xs ys : List Action) (p q : List Try) (n : ℕ) → Runs a b d e r r outs xs p 0 → Runs b c e f s t lists ys q n → Runs a c d f (r ++ s) (r ++ t) (outs ++ lists) (xs ++ ys) (p ++ q) n
runs-append law a b c d e f r s t outs lists xs ys p q n first then =
    let none : failures p + 0 ≡ failures p = omega arith in
    record {
      received = grown-twice a.received b.received c.received r s first.received then.received;
      served =
          let P : List Happening → List Action → Type 0 = λ events actions. HasServed d f events (outs ++ lists) actions in
          subst (λ (actions : List Action). P (map event_of (r ++ t)) actions) (sym (others-append xs ys))
          (subst (λ (events : List Happening). P events (others xs ++ others ys)) (sym (map-append event_of r t))
          (served-append law d e f (map event_of r) (map event_of t) outs lists (others xs) (others ys) first.served then.served));
      sends = sends-twice p q xs ys first.sends then.sends;
      sent = sent-twice a.sent b.sent c.sent p q first.sent then.sent;
      counted = fails-twice a.faults b.faults c.faults p q n (first.counted ∙ ap (plus a.faults) none) then.counted;
    }

-- a run with nothing but a fault of the wire, or none
runs-none : (old new : Traffic) (told : Told) (n : ℕ) → new.received ≡ old.received → new.sent ≡ old.sent → new.faults ≡ plus old.faults n → Runs old new told told [] [] [] [] [] n
runs-none old new told n p q r =
    let none : n ≡ 0 + n = omega arith in
    record {
      received = p ∙ grown-nil old.received;
      served = served-none told;
      sends = refl;
      sent = q ∙ grown-nil old.sent;
      counted = r ∙ ap (plus old.faults) none;
    }

-- one turn

-- a turn tries at most as many sends as there are actions
sendings-few : (actions : List Action) → length (sendings actions) ≤ length actions
sendings-few [] = omega arith
sendings-few (Send socket to payload ∷ actions) = omega (arith, sendings-few actions)
sendings-few (Fetch fetch attempt source only_if_cached owner ∷ actions) = omega (arith, sendings-few actions)
sendings-few (Serve client answer ∷ actions) = omega (arith, sendings-few actions)

tries-few : (tries : List Try) (actions : List Action) → attempted tries ≡ sendings actions → length actions ≤ most_actions → length tries ≤ 1 * most_actions
tries-few tries actions p few =
    let same : length (attempted tries) ≡ length tries = length-map tries (λ (t : Try). t.sending) in
    let sent : length (attempted tries) ≡ length (sendings actions) = ap length p in
    omega (arith, same, sent, sendings-few actions, few)

turn-made-of : (old mid new : Traffic) (a b c : Told) (from via to : Pumped) (receipt : Receipt) (actions : List Action)
    → mid.received ≡ grown old.received (receipt ∷ []) → mid.sent ≡ old.sent → mid.faults ≡ old.faults → Counts from via (receipt ∷ []) []
    → HasServed a b (event_of receipt ∷ []) (actions ∷ []) [] → length actions ≤ most_actions → Carries mid new b c via to actions → Pumps old new a c from to 1
turn-made-of old mid new a b c from via to receipt actions p q r k s few t =
    let none : failures t.tries ≡ failures t.tries + 0 = omega arith in
    record {
      receipts = receipt ∷ [];
      outs = actions ∷ [];
      tries = t.tries;
      runs = record {
        received = t.received ∙ p;
        served = rw (append-nil actions) (served-passed a b c (event_of receipt ∷ []) (actions ∷ []) [] (others actions) s t.passed);
        sends = rw (append-nil actions) t.sends;
        sent = t.sent ∙ ap (λ (l : Option (List Sending)). grown l (gone t.tries)) q;
        counted = t.counted ∙ ap (λ (n : ℕ). plus n (failures t.tries)) r ∙ ap (plus old.faults) none;
      };
      made = refl;
      counts = counts-append from via to (receipt ∷ []) [] [] t.tries k t.counts;
      few = tries-few t.tries actions t.sends few;
    }

pub turn-made : (old mid new : Traffic) (a b c : Told) (from via to : Pumped) (receipt : Receipt) (actions shown : List Action)
    → mid.received ≡ grown old.received (receipt ∷ []) → mid.sent ≡ old.sent → mid.faults ≡ old.faults → Counts from via (receipt ∷ []) []
    → HasServed a b (event_of receipt ∷ []) (actions ∷ []) [] → length actions ≤ most_actions → shown ≡ actions → Carries mid new b c via to shown → Pumps old new a c from to 1
turn-made old mid new a b c from via to receipt actions shown p q r k s few view t =
    let P : List Action → Type 0 = λ l. Carries mid new b c via to l in
    turn-made-of old mid new a b c from via to receipt actions p q r k s few (subst P view t)

turn-broken-of : (old mid new : Traffic) (a b c : Told) (from to : Pumped) (receipt : Receipt) (actions : List Action) (n : ℕ)
    → mid.received ≡ grown old.received (receipt ∷ []) → mid.sent ≡ old.sent → mid.faults ≡ old.faults
    → HasServed a b (event_of receipt ∷ []) (actions ∷ []) [] → Carries mid new b c from to (take n actions) → Breaks old new a c 1
turn-broken-of old mid new a b c from to receipt actions n p q r s t =
    let none : failures t.tries ≡ failures t.tries + 0 = omega arith in
    record {
      receipts = receipt ∷ [];
      taken = receipt ∷ [];
      outs = actions ∷ [];
      done = take n actions;
      left = drop n actions;
      tries = t.tries;
      runs = record {
        received = t.received ∙ p;
        served = served-passed a b c (event_of receipt ∷ []) (actions ∷ []) [] (others (take n actions)) s t.passed;
        sends = t.sends;
        sent = t.sent ∙ ap (λ (l : Option (List Sending)). grown l (gone t.tries)) q;
        counted = t.counted ∙ ap (λ (m : ℕ). plus m (failures t.tries)) r ∙ ap (plus old.faults) none;
      };
      all_but_last = inl refl;
      front = append-nil actions ∙ sym (take-append-drop n actions);
      within = omega arith;
    }

pub turn-broken : (old mid new : Traffic) (a b c : Told) (from to : Pumped) (receipt : Receipt) (actions shown : List Action)
    → mid.received ≡ grown old.received (receipt ∷ []) → mid.sent ≡ old.sent → mid.faults ≡ old.faults
    → HasServed a b (event_of receipt ∷ []) (actions ∷ []) [] → shown ≡ actions → (n : ℕ) × Carries mid new b c from to (take n shown) → Breaks old new a c 1
turn-broken old mid new a b c from to receipt actions shown p q r s view t =
    let P : List Action → Type 0 = λ l. Carries mid new b c from to (take t.0 l) in
    turn-broken-of old mid new a b c from to receipt actions t.0 p q r s (subst P view t.1)

pub turn-refused : (old new : Traffic) (a b : Told) (receipt : Receipt) → new.received ≡ grown old.received (receipt ∷ []) → new.sent ≡ old.sent → new.faults ≡ old.faults → b ≡ a → Breaks old new a b 1
turn-refused old new a b receipt p q r s = record {
  receipts = receipt ∷ [];
  taken = [];
  outs = [];
  done = [];
  left = [];
  tries = [];
  runs = record {
    received = p;
    served = let P : Told → Type 0 = λ t. HasServed a t [] [] [] in subst P (sym s) (served-none a);
    sends = refl;
    sent = q ∙ grown-nil old.sent;
    counted = r;
  };
  all_but_last = inr (receipt, refl);
  front = refl;
  within = omega arith;
}

pub turn-unreceived : (old new : Traffic) (told : Told) → new.received ≡ old.received → new.sent ≡ old.sent → new.faults ≡ old.faults → Breaks old new told told 1
turn-unreceived old new told p q r = record {
  receipts = [];
  taken = [];
  outs = [];
  done = [];
  left = [];
  tries = [];
  runs = runs-none old new told 0 p q r;
  all_but_last = inl refl;
  front = refl;
  within = omega arith;
}

pub turn-lost : (old new : Traffic) (told : Told) → new.received ≡ old.received → new.sent ≡ old.sent → new.faults ≡ plus old.faults 1 → LosesWire old new told told 1
turn-lost old new told p q r = record {
  receipts = [];
  outs = [];
  tries = [];
  runs = runs-none old new told 1 p q r;
  fewer = omega arith;
}

-- turns

pub pumps-none : (traffic : Traffic) (told : Told) (pumped : Pumped) → Pumps traffic traffic told told pumped pumped 0
pumps-none traffic told pumped = record {
  receipts = [];
  outs = [];
  tries = [];
  runs = runs-none traffic traffic told 0 refl refl refl;
  made = refl;
  counts = counts-none pumped pumped refl;
  few = omega arith;
}

pub broken-none : (traffic : Traffic) (told : Told) (turns : ℕ) → Breaks traffic traffic told told turns
broken-none traffic told turns = record {
  receipts = [];
  taken = [];
  outs = [];
  done = [];
  left = [];
  tries = [];
  runs = runs-none traffic traffic told 0 refl refl refl;
  all_but_last = inl refl;
  front = refl;
  within = omega arith;
}

pub pumps-more : Appends → (a b c : Traffic) (d e f : Told) (g h i : Pumped) (n : ℕ) → Pumps a b d e g h n → Pumps b c e f h i 1 → Pumps a c d f g i (n + 1)
pumps-more law a b c d e f g h i n p q = record {
  receipts = p.receipts ++ q.receipts;
  outs = p.outs ++ q.outs;
  tries = p.tries ++ q.tries;
  runs =
      let P : List Action → Type 0 = λ done. Runs a c d f (p.receipts ++ q.receipts) (p.receipts ++ q.receipts) (p.outs ++ q.outs) done (p.tries ++ q.tries) 0 in
      subst P (sym (joined-append p.outs q.outs))
      (runs-append law a b c d e f p.receipts q.receipts q.receipts p.outs q.outs (joined p.outs) (joined q.outs) p.tries q.tries 0 p.runs q.runs);
  made = omega (arith, length-append p.receipts q.receipts, p.made, q.made);
  counts = counts-append g h i p.receipts q.receipts p.tries q.tries p.counts q.counts;
  few = omega (arith, length-append p.tries q.tries, p.few, q.few);
}

pub pumps-lost : Appends → (a b c : Traffic) (d e f : Told) (g h : Pumped) (n turns : ℕ) → n < turns → Pumps a b d e g h n → LosesWire b c e f 1 → LosesWire a c d f turns
pumps-lost law a b c d e f g h n turns lt p q = record {
  receipts = p.receipts ++ q.receipts;
  outs = p.outs ++ q.outs;
  tries = p.tries ++ q.tries;
  runs =
      let P : List Action → Type 0 = λ done. Runs a c d f (p.receipts ++ q.receipts) (p.receipts ++ q.receipts) (p.outs ++ q.outs) done (p.tries ++ q.tries) 1 in
      subst P (sym (joined-append p.outs q.outs))
      (runs-append law a b c d e f p.receipts q.receipts q.receipts p.outs q.outs (joined p.outs) (joined q.outs) p.tries q.tries 1 p.runs q.runs);
  fewer = omega (arith, length-append p.receipts q.receipts, p.made, q.fewer, lt);
}

but-last-after : (r s t : List Receipt) → AllButLast s t → AllButLast (r ++ s) (r ++ t)
but-last-after r s t (inl same) = inl (ap (λ (l : List Receipt). r ++ l) same)
but-last-after r s t (inr (last, is)) = inr (last, ap (λ (l : List Receipt). r ++ l) is ∙ sym (append_assoc r t (last ∷ [])))

pub pumps-broken : Appends → (a b c : Traffic) (d e f : Told) (g h : Pumped) (n turns : ℕ) → n < turns → Pumps a b d e g h n → Breaks b c e f 1 → Breaks a c d f turns
pumps-broken law a b c d e f g h n turns lt p q = record {
  receipts = p.receipts ++ q.receipts;
  taken = p.receipts ++ q.taken;
  outs = p.outs ++ q.outs;
  done = joined p.outs ++ q.done;
  left = q.left;
  tries = p.tries ++ q.tries;
  runs = runs-append law a b c d e f p.receipts q.receipts q.taken p.outs q.outs (joined p.outs) q.done p.tries q.tries 0 p.runs q.runs;
  all_but_last = but-last-after p.receipts q.receipts q.taken q.all_but_last;
  front = joined-append p.outs q.outs ∙ ap (λ (l : List Action). joined p.outs ++ l) q.front ∙ sym (append_assoc (joined p.outs) q.done q.left);
  within = omega (arith, length-append p.receipts q.receipts, p.made, q.within, lt);
}

-- what was counted in all

filter-both : (receipts : List Receipt) → length (filter is_datagram receipts) + length (filter (λ r. not (is_datagram r)) receipts) ≡ length receipts
filter-both [] = refl
filter-both (came datagram now ∷ receipts) = omega (arith, filter-both receipts)
filter-both (idled now ∷ receipts) = omega (arith, filter-both receipts)

plus-small : (n : ℕ) → n < 4294967296 → plus 0 n ≡ n
plus-small n lt = grind (arith, nat_tests)

pub turns-counted : (old new : Traffic) (before after : Told) (pumped : Pumped) (made turns : ℕ) → made ≡ turns → turns < 4294967296 → Pumps old new before after nothing pumped made → pumped.received + pumped.idle ≡ turns
turns-counted old new before after pumped made turns all lt p =
    let both = filter-both p.receipts in
    let datagrams = p.counts.datagrams ∙ plus-small (length (filter is_datagram p.receipts)) (omega (arith, both, p.made, lt, all)) in
    let idles = p.counts.idles ∙ plus-small (length (filter (λ r. not (is_datagram r)) p.receipts)) (omega (arith, both, p.made, lt, all)) in
    omega (arith, datagrams, idles, both, p.made, all)

-- each send was taken or failed
tries-both : (tries : List Try) → length (gone tries) + failures tries ≡ length tries
tries-both tries =
    let same : length (gone tries) ≡ length (filter (λ (t : Try). t.went) tries) = length-map (filter (λ (t : Try). t.went) tries) (λ (t : Try). t.sending) in
    let both : length (filter (λ (t : Try). t.went) tries) + failures tries ≡ length tries = length-filter_both (λ (t : Try). t.went) (λ (t : Try). not t.went) (λ t. refl) tries in
    omega (arith, same, both)

plus-from-none : (n : ℕ) → n < 18446744073709551615 → plus 0 n ≡ n
plus-from-none n lt = grind (arith, nat_tests)

counted-exactly : (old new : Traffic) (before after : Told) (pumped : Pumped) (turns : ℕ) → turns < 4294967296 → (p : Pumps old new before after nothing pumped turns) → CountsAll pumped p.receipts p.tries
counted-exactly old new before after pumped turns lt p =
    let both = filter-both p.receipts in
    let tries = tries-both p.tries in
    record {
      datagrams = p.counts.datagrams ∙ plus-from-none (length (filter is_datagram p.receipts)) (omega (arith, both, p.made, lt));
      idles = p.counts.idles ∙ plus-from-none (length (filter (λ r. not (is_datagram r)) p.receipts)) (omega (arith, both, p.made, lt));
      sends = p.counts.sends ∙ plus-from-none (length (gone p.tries)) (omega (arith, tries, p.few, lt));
      fails = p.counts.fails ∙ plus-from-none (failures p.tries) (omega (arith, tries, p.few, lt));
    }

pub all-counted : (old new : Traffic) (before after : Told) (pumped : Pumped) (made turns : ℕ) → made ≡ turns → turns < 4294967296 → Pumps old new before after nothing pumped made → Makes old new before after pumped turns
all-counted old new before after pumped made turns all lt p =
    let P : ℕ → Type 0 = λ n. Pumps old new before after nothing pumped n in
    let q = subst P all p in
    (q, counted-exactly old new before after pumped turns lt q)
