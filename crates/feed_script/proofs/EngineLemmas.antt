-- Steps of the engine, composed.
use Rattle.std.proofs.Common.{◌≡◌, ℕ, inl, inr, suc, ◌+◌, ◌<◌, true, false, cond, List, [], ◌∷◌, ◌++◌, length, Some, refl, ap, sym, ◌∙◌, arith, append_assoc, length-append, nat_eq, take, drop, get_or, drop-cons, subst}
use Rattle.std.proofs.lemmas.List.{append-nil, take-append-drop, take_more}
use Rattle.std.specs.Str.Lines.{strip_carriage_return}
use Rattle.feed_script.specs.declared.phase.Phase.{Phase}
use Rattle.feed_script.specs.declared.engine.Engine.{Engine}
use Rattle.feed_script.specs.declared.engine.Stop.{Stop}
use Rattle.feed_script.specs.declared.engine.Stop.TheVariants.{Line, NoMemory}
use Rattle.script_lines.specs.ScriptLine.{ScriptLine, sets, goes, happens, refuses, inquires, blank, wrong, script_line, script_of}
use Rattle.feed_script.specs.Script.{Stage, setting, started, stage_after, is_misplaced, first_misplaced}
use Rattle.feed_script.specs.Written.{EndsWithBreak, NoBreak}
use Rattle.feed_script.specs.Ahead.{ScriptPhase, preparing, running, stage_of, script_phase_of, printed, next, text_ahead, text_after, wrong_after, text_left, wrong_left, Obeys, Takes, StopsBy, Ends, EndsBy, PrintsFront}
use Rattle.feed_script.proofs.LineLemmas.{script-break, script-end, script-long, NoBreak-push}

-- a misplaced line and the lines after it have no output
ahead-misplaced : (s : ScriptPhase) (l : ScriptLine) (ls : List ScriptLine) → is_misplaced (stage_of s) l ≡ true → text_ahead s (l ∷ ls) ≡ []
ahead-misplaced s l ls h = ap (λ b. cond b [] (printed s l ++ text_ahead (next s l) ls)) h

ahead-placed : (s : ScriptPhase) (l : ScriptLine) (ls : List ScriptLine) → is_misplaced (stage_of s) l ≡ false → text_ahead s (l ∷ ls) ≡ printed s l ++ text_ahead (next s l) ls
ahead-placed s l ls h = ap (λ b. cond b [] (printed s l ++ text_ahead (next s l) ls)) h

-- the stage after a line that is in place
stage-next : (s : ScriptPhase) (l : ScriptLine) → is_misplaced (stage_of s) l ≡ false → stage_of (next s l) ≡ stage_after (stage_of s) l
stage-next (preparing s) (sets x) h = refl
stage-next (preparing s) goes h = refl
stage-next (preparing s) (happens o) h = refl
stage-next (preparing s) (refuses slot fault) h = refl
stage-next (preparing s) inquires h = refl
stage-next (preparing s) blank h = refl
stage-next (preparing s) wrong h = refl
stage-next (running own state) (sets x) h = refl
stage-next (running own state) goes h = refl
stage-next (running own state) (happens o) h = refl
stage-next (running own state) (refuses slot fault) h = refl
stage-next (running own state) inquires h = refl
stage-next (running own state) blank h = refl
stage-next (running own state) wrong h = refl

first-here : (stage : Stage) (n : ℕ) (l : ScriptLine) (ls : List ScriptLine) → is_misplaced stage l ≡ true → first_misplaced stage n (l ∷ ls) ≡ Some n
first-here stage n l ls h = ap (λ b. cond b (Some n) (first_misplaced (stage_after stage l) (n + 1) ls)) h

first-later : (stage : Stage) (n : ℕ) (l : ScriptLine) (ls : List ScriptLine) → is_misplaced stage l ≡ false → first_misplaced stage n (l ∷ ls) ≡ first_misplaced (stage_after stage l) (n + 1) ls
first-later stage n l ls h = ap (λ b. cond b (Some n) (first_misplaced (stage_after stage l) (n + 1) ls)) h

-- the input taken so far is the complete lines and the incomplete current one
parts-rest : (e f : Engine) (piece whole rest : List ℕ) → e.line.items ++ piece ≡ whole ++ f.line.items → e.line.items ++ (piece ++ rest) ≡ whole ++ (f.line.items ++ rest)
parts-rest e f piece whole rest parts =
    sym (append_assoc e.line.items piece rest) ∙ ap (λ t. t ++ rest) parts ∙ append_assoc whole f.line.items rest

pub takes-text : (old new : Engine) (piece x y : List ℕ) → Takes old piece x new y → (rest : List ℕ) → x ++ text_left old (piece ++ rest) ≡ y ++ text_left new rest
takes-text old new piece x y takes rest =
    ap (λ t. x ++ text_after old t) (parts-rest old new piece takes.whole rest takes.parts) ∙ takes.text (new.line.items ++ rest)

pub takes-wrong : (old new : Engine) (piece x y : List ℕ) → Takes old piece x new y → (rest : List ℕ) → wrong_left old (piece ++ rest) ≡ wrong_left new rest
takes-wrong old new piece x y takes rest =
    ap (wrong_after old) (parts-rest old new piece takes.whole rest takes.parts) ∙ takes.wrong_line (new.line.items ++ rest)

pub takes-nothing : (e : Engine) (shown : List ℕ) → NoBreak e.line.items → Takes e [] shown e shown
takes-nothing e shown h = record { whole = []; parts = append-nil e.line.items; ended = inl refl; text = λ rest. refl; wrong_line = λ rest. refl; partial = h }

-- appending two lists that end with a line break gives one that does
pub ended-append : (xs ys : List ℕ) → EndsWithBreak xs → EndsWithBreak ys → EndsWithBreak (xs ++ ys)
ended-append xs ys first second =
    elim second [
      | inl none ↦ let P : List ℕ → Type 0 = EndsWithBreak in subst P (sym (append-nil xs) ∙ ap (λ t. xs ++ t) (sym none)) first
      | inr found ↦ inr (xs ++ found.0, ap (λ t. xs ++ t) found.1 ∙ sym (append_assoc xs found.0 (10 ∷ [])))
    ]

pub takes-more : (a b c : Engine) (p q x y z : List ℕ) → Takes a p x b y → Takes b q y c z → Takes a (p ++ q) x c z
takes-more a b c p q x y z first second = record {
  whole = first.whole ++ second.whole;
  parts =
      sym (append_assoc a.line.items p q)
      ∙ ap (λ t. t ++ q) first.parts
      ∙ append_assoc first.whole b.line.items q
      ∙ ap (λ t. first.whole ++ t) second.parts
      ∙ sym (append_assoc first.whole second.whole c.line.items);
  ended = ended-append first.whole second.whole first.ended second.ended;
  text = λ rest. ap (λ t. x ++ text_after a t) (append_assoc first.whole second.whole rest) ∙ first.text (second.whole ++ rest) ∙ second.text rest;
  wrong_line = λ rest. ap (wrong_after a) (append_assoc first.whole second.whole rest) ∙ first.wrong_line (second.whole ++ rest) ∙ second.wrong_line rest;
  partial = second.partial;
}

-- an engine that stops within q, after it took p, stops within p and q and whatever follows
pub stops-later : (a b : Engine) (p q r x y z : List ℕ) (s : Stop) → Takes a p x b y → StopsBy b q y z s → StopsBy a (p ++ (q ++ r)) x z s
stops-later a b p q r x y z (Line n) first second = λ rest.
    let e = append_assoc p (q ++ r) rest ∙ ap (λ t. p ++ t) (append_assoc q r rest) in
    let last = second (r ++ rest) in
    (ap (λ t. x ++ text_left a t) e ∙ takes-text a b p x y first (q ++ (r ++ rest)) ∙ last.0, ap (wrong_left a) e ∙ takes-wrong a b p x y first (q ++ (r ++ rest)) ∙ last.1)
stops-later a b p q r x y z NoMemory first second = λ rest.
    let e = append_assoc p (q ++ r) rest ∙ ap (λ t. p ++ t) (append_assoc q r rest) in
    let last = second (r ++ rest) in
    (last.0, ap (λ t. x ++ text_left a t) e ∙ takes-text a b p x y first (q ++ (r ++ rest)) ∙ last.1)

-- a line was completed and executed
pub takes-break : (old new : Engine) (x y : List ℕ) → NoBreak old.line.items → Obeys old.phase (script_line (strip_carriage_return old.line.items)) x new.phase y
    → new.line.items ≡ [] → new.number ≡ old.number + 1 → Takes old (10 ∷ []) x new y
takes-break old new x y partial obeys empty number =
    let l = script_line (strip_carriage_return old.line.items) in
    let s = script_phase_of old.phase in
    let lines : (rest : List ℕ) → script_of ((old.line.items ++ 10 ∷ []) ++ rest) ≡ l ∷ script_of rest =
    λ rest. ap script_of (append_assoc old.line.items (10 ∷ []) rest) ∙ script-break old.line.items rest partial in
    record {
      whole = old.line.items ++ 10 ∷ [];
      parts = sym (append-nil (old.line.items ++ 10 ∷ [])) ∙ ap (λ t. (old.line.items ++ 10 ∷ []) ++ t) (sym empty);
      ended = inr (old.line.items, refl);
      text = λ rest.
          ap (λ t. x ++ text_ahead s t) (lines rest)
          ∙ ap (λ t. x ++ t) (ahead-placed s l (script_of rest) obeys.placed)
          ∙ sym (append_assoc x (printed s l) (text_ahead (next s l) (script_of rest)))
          ∙ ap (λ t. t ++ text_ahead (next s l) (script_of rest)) (sym obeys.shown)
          ∙ ap (λ n. y ++ text_ahead n (script_of rest)) (sym obeys.after);
      wrong_line = λ rest.
          ap (first_misplaced (stage_of s) (old.number + 1)) (lines rest)
          ∙ first-later (stage_of s) (old.number + 1) l (script_of rest) obeys.placed
          ∙ ap (λ g. first_misplaced g (old.number + 1 + 1) (script_of rest)) (sym (stage-next s l obeys.placed))
          ∙ ap (λ n. first_misplaced (stage_of n) (old.number + 1 + 1) (script_of rest)) (sym obeys.after)
          ∙ ap (λ n. first_misplaced (stage_of (script_phase_of new.phase)) (n + 1) (script_of rest)) (sym number);
      partial = let P : List ℕ → Type 0 = NoBreak in rw empty tt;
    }

-- the current line is wrong, and nothing was printed
stops-here : (e : Engine) (piece x : List ℕ) (l : ScriptLine) → is_misplaced (stage_of (script_phase_of e.phase)) l ≡ true
    → ((rest : List ℕ) → (ls : List ScriptLine) × (script_of (e.line.items ++ (piece ++ rest)) ≡ l ∷ ls)) → StopsBy e piece x x (Line (e.number + 1))
stops-here e piece x l h lines = λ rest.
    let found = lines rest in
    let s = script_phase_of e.phase in (
      ap (λ t. x ++ text_ahead s t) found.1 ∙ ap (λ t. x ++ t) (ahead-misplaced s l found.0 h) ∙ append-nil x,
      ap (first_misplaced (stage_of s) (e.number + 1)) found.1 ∙ first-here (stage_of s) (e.number + 1) l found.0 h,
    )

pub stops-break : (e : Engine) (x : List ℕ) → NoBreak e.line.items → is_misplaced (stage_of (script_phase_of e.phase)) (script_line (strip_carriage_return e.line.items)) ≡ true
    → StopsBy e (10 ∷ []) x x (Line (e.number + 1))
stops-break e x partial h =
    stops-here e (10 ∷ []) x (script_line (strip_carriage_return e.line.items)) h (λ rest. (script_of rest, script-break e.line.items rest partial))

pub stops-memory : (e : Engine) (piece x : List ℕ) → StopsBy e piece x x NoMemory
stops-memory e piece x = λ rest. (text_left e (piece ++ rest), refl)

-- one more octet of the incomplete current line
pub takes-octet : (old new : Engine) (c : ℕ) (x : List ℕ) → NoBreak old.line.items → nat_eq c 10 ≡ false → new.phase ≡ old.phase → new.number ≡ old.number
    → new.line.items ≡ old.line.items ++ c ∷ [] → Takes old (c ∷ []) x new x
takes-octet old new c x partial inside phase number line = record {
  whole = [];
  parts = sym line;
  ended = inl refl;
  text = λ rest. ap (λ p. x ++ text_ahead (script_phase_of p) (script_of rest)) (sym phase);
  wrong_line = λ rest.
      ap (λ p. first_misplaced (stage_of (script_phase_of p)) (old.number + 1) (script_of rest)) (sym phase)
      ∙ ap (λ n. first_misplaced (stage_of (script_phase_of new.phase)) (n + 1) (script_of rest)) (sym number);
  partial = rw line (NoBreak-push old.line.items c partial inside);
}

misplaced-wrong : (stage : Stage) → is_misplaced stage wrong ≡ true
misplaced-wrong (setting s) = refl
misplaced-wrong (started neighbours) = refl

pub stops-long : (e : Engine) (c : ℕ) (x : List ℕ) → NoBreak e.line.items → nat_eq c 10 ≡ false → 262144 < length e.line.items → StopsBy e (c ∷ []) x x (Line (e.number + 1))
stops-long e c x partial inside long =
    stops-here e (c ∷ []) x wrong (misplaced-wrong (stage_of (script_phase_of e.phase))) (λ rest.
    let found = script-long (e.line.items ++ c ∷ []) rest (NoBreak-push e.line.items c partial inside) (omega (arith, length-append e.line.items (c ∷ []))) in
    (found.0, ap script_of (sym (append_assoc e.line.items (c ∷ []) rest)) ∙ found.1))

-- the end of the input
pub ends-empty : (e : Engine) (x : List ℕ) → e.line.items ≡ [] → Ends e x x
ends-empty e x empty = record {
  text = ap (λ t. x ++ text_after e (t ++ [])) empty ∙ append-nil x;
  wrong_line = ap (λ t. wrong_after e (t ++ [])) empty;
}

last-line : (e : Engine) → NoBreak e.line.items → 0 < length e.line.items → script_of (e.line.items ++ []) ≡ script_line e.line.items ∷ []
last-line e partial some = ap script_of (append-nil e.line.items) ∙ script-end e.line.items partial some

pub ends-line : (e : Engine) (new : Phase) (x y : List ℕ) → NoBreak e.line.items → 0 < length e.line.items → Obeys e.phase (script_line e.line.items) x new y → Ends e x y
ends-line e new x y partial some obeys =
    let l = script_line e.line.items in
    let s = script_phase_of e.phase in
    record {
      text =
          ap (λ t. x ++ text_ahead s t) (last-line e partial some)
          ∙ ap (λ t. x ++ t) (ahead-placed s l [] obeys.placed ∙ append-nil (printed s l))
          ∙ sym obeys.shown;
      wrong_line =
          ap (first_misplaced (stage_of s) (e.number + 1)) (last-line e partial some)
          ∙ first-later (stage_of s) (e.number + 1) l [] obeys.placed;
    }

pub ends-wrong : (e : Engine) (x : List ℕ) → NoBreak e.line.items → 0 < length e.line.items → is_misplaced (stage_of (script_phase_of e.phase)) (script_line e.line.items) ≡ true
    → EndsBy e x x (Line (e.number + 1))
ends-wrong e x partial some h =
    let l = script_line e.line.items in
    let s = script_phase_of e.phase in (
      ap (λ t. x ++ text_ahead s t) (last-line e partial some) ∙ ap (λ t. x ++ t) (ahead-misplaced s l [] h) ∙ append-nil x,
      ap (first_misplaced (stage_of s) (e.number + 1)) (last-line e partial some) ∙ first-here (stage_of s) (e.number + 1) l [] h,
    )

pub ends-memory : (e : Engine) (x : List ℕ) → EndsBy e x x NoMemory
ends-memory e x = (text_left e [], refl)

-- an engine that stops at the octet with index i of a chunk stops within the chunk
pub stops-at : (a b : Engine) (piece : List ℕ) (i : ℕ) (x y z : List ℕ) (s : Stop) → i < length piece → Takes a (take i piece) x b y
    → StopsBy b (get_or piece i 0 ∷ []) y z s → StopsBy a piece x z s
stops-at a b piece i x y z s inside first second =
    let whole : take i piece ++ (get_or piece i 0 ∷ drop (suc i) piece) ≡ piece =
    ap (λ t. take i piece ++ t) (sym (drop-cons piece i 0 inside)) ∙ take-append-drop i piece in
    let P : List ℕ → Type 0 = λ q. StopsBy a q x z s in
    subst P whole (stops-later a b (take i piece) (get_or piece i 0 ∷ []) (drop (suc i) piece) x y z s first second)

-- an engine that took the octets of a chunk before index i, and then that octet
pub takes-next : (a b c : Engine) (piece : List ℕ) (i : ℕ) (x y z : List ℕ) → i < length piece → Takes a (take i piece) x b y
    → Takes b (get_or piece i 0 ∷ []) y c z → Takes a (take (i + 1) piece) x c z
takes-next a b c piece i x y z inside first second =
    let P : List ℕ → Type 0 = λ q. Takes a q x c z in
    subst P (sym (take_more piece i 0 inside)) (takes-more a b c (take i piece) (get_or piece i 0 ∷ []) x y z first second)

pub front-takes : (old new : Engine) (piece x y : List ℕ) → Takes old piece x new y → PrintsFront old piece x y
front-takes old new piece x y takes = (text_left new [], ap (λ t. x ++ text_left old t) (sym (append-nil piece)) ∙ takes-text old new piece x y takes [])

pub front-stops : (old : Engine) (piece x y : List ℕ) (s : Stop) → StopsBy old piece x y s → PrintsFront old piece x y
front-stops old piece x y (Line n) stops =
    ([], ap (λ t. x ++ text_left old t) (sym (append-nil piece)) ∙ (stops []).0 ∙ sym (append-nil y))
front-stops old piece x y NoMemory stops =
    let found = stops [] in (found.0, ap (λ t. x ++ text_left old t) (sym (append-nil piece)) ∙ found.1)

pub front-ends : (old : Engine) (x y : List ℕ) → Ends old x y → PrintsFront old [] x y
front-ends old x y ends = ([], ends.text ∙ sym (append-nil y))

pub front-unchanged : (old : Engine) (piece x : List ℕ) → PrintsFront old piece x x
front-unchanged old piece x = (text_left old piece, refl)
