-- What a run has read and written so far.
use Rattle.std.proofs.Common.{◌≡◌, ℕ, inl, ◌+◌, ◌-◌, ◌<◌, ◌≤◌, min, Option, Some, None, IfSome, List, [], ◌++◌, length, take, drop, refl, ap, sym, ◌∙◌, arith, subst, append_assoc, length-append}
use Rattle.std.proofs.lemmas.List.{append-nil, take-append-drop, take-append-le, length-take, length-drop}
use Rattle.std.proofs.Math.Seq.{take-append_seam}
use Rattle.std.specs.Io.KnownBytes.{Appends, Consumes, Keeps, IsAtEnd}
use Rattle.feed_script.specs.declared.engine.Engine.{Engine}
use Rattle.feed_script.specs.declared.engine.Stop.TheVariants.{Line}
use Rattle.script_lines.specs.ScriptLine.{script_of}
use Rattle.feed_script.specs.Script.{text, first_wrong, first_misplaced, usual}
use Rattle.feed_script.specs.Written.{EndsWithBreak, NoBreak, WritesPrefix, WritesWhole}
use Rattle.feed_script.specs.Ahead.{script_phase_of, stage_of, preparing, text_ahead, text_after, wrong_after, text_left, wrong_left, Takes, StopsBy, Ends, EndsBy, PrintsFront}
use Rattle.feed_script.specs.Told.{WritesFront}
use Rattle.feed_script.proofs.EngineLemmas.{ended-append}
use Rattle.feed_script.proofs.KnownOctets.{Appends-nil, Consumes-nil, Appends-trans, Consumes-trans, Consumes-kept}

-- An engine that has read and written this: of whole lines and the one that is begun, the text and the first wrong line are
-- those of the script, whatever comes.
pub record Reached (e : Engine) (read written : List ℕ) : Type 0 where
  pub whole : List ℕ
  pub parts : read ≡ whole ++ e.line.items
  pub ended : EndsWithBreak whole
  pub text_whole : (rest : List ℕ) → written ++ text_after e rest ≡ text (whole ++ rest)
  pub wrong_whole : (rest : List ℕ) → wrong_after e rest ≡ first_wrong (whole ++ rest)
  pub partial : NoBreak e.line.items

read-rest : (e : Engine) (read written rest : List ℕ) (r : Reached e read written) → r.whole ++ (e.line.items ++ rest) ≡ read ++ rest
read-rest e read written rest r = sym (ap (λ t. t ++ rest) r.parts ∙ append_assoc r.whole e.line.items rest)

says : (e : Engine) (read written : List ℕ) → Reached e read written → (rest : List ℕ) → written ++ text_left e rest ≡ text (read ++ rest)
says e read written r rest = r.text_whole (e.line.items ++ rest) ∙ ap text (read-rest e read written rest r)

wrong-says : (e : Engine) (read written : List ℕ) → Reached e read written → (rest : List ℕ) → wrong_left e rest ≡ first_wrong (read ++ rest)
wrong-says e read written r rest = r.wrong_whole (e.line.items ++ rest) ∙ ap first_wrong (read-rest e read written rest r)

pub record Told (input_old input_new output_old output_new : Option (List ℕ)) (e : Engine) (total : ℕ) : Type 0 where
  pub read : List ℕ
  pub written : List ℕ
  pub consumed : Consumes input_old input_new read
  pub appended : Appends output_old output_new written
  pub reached : Reached e read written
  pub count : length read ≡ total

pub told-start : ((b : List ℕ) → text_ahead (preparing usual) (script_of b) ≡ text b) → (a b : Option (List ℕ)) (e : Engine) → script_phase_of e.phase ≡ preparing usual → e.line.items ≡ [] → e.number ≡ 0
    → Told a a b b e 0
told-start law a b e standing line number = record {
  read = [];
  written = [];
  consumed = Consumes-nil a;
  appended = Appends-nil b;
  reached = record {
    whole = [];
    parts = sym line;
    ended = inl refl;
    text_whole = λ rest. ap (λ s. text_ahead s (script_of rest)) standing ∙ law rest;
    wrong_whole = λ rest.
        ap (λ s. first_misplaced (stage_of s) (e.number + 1) (script_of rest)) standing
        ∙ ap (λ n. first_misplaced (stage_of (preparing usual)) (n + 1) (script_of rest)) number;
    partial = rw line tt;
  };
  count = refl;
}

pub told-kept : (i j k o p : Option (List ℕ)) (e : Engine) (n : ℕ) → Told i j o p e n → Keeps j k → Told i k o p e n
told-kept i j k o p e n told keeps = record {
  read = told.read;
  written = told.written;
  consumed = Consumes-kept i j k told.read told.consumed keeps;
  appended = told.appended;
  reached = told.reached;
  count = told.count;
}

-- the engine took a chunk that was read, and its output was written
pub told-takes : (i j k o p q : Option (List ℕ)) (e f : Engine) (piece printed : List ℕ) (n m : ℕ) → Told i j o p e n → Consumes j k piece → Takes e piece [] f printed → Appends p q printed
    → n + length piece ≡ m → Told i k o q f m
told-takes i j k o p q e f piece printed n m told more takes written count = record {
  read = told.read ++ piece;
  written = told.written ++ printed;
  consumed = Consumes-trans i j k told.read piece told.consumed more;
  appended = Appends-trans o p q told.written printed told.appended written;
  reached = record {
    whole = told.reached.whole ++ takes.whole;
    parts =
        ap (λ t. t ++ piece) told.reached.parts
        ∙ append_assoc told.reached.whole e.line.items piece
        ∙ ap (λ t. told.reached.whole ++ t) takes.parts
        ∙ sym (append_assoc told.reached.whole takes.whole f.line.items);
    ended = ended-append told.reached.whole takes.whole told.reached.ended takes.ended;
    text_whole = λ rest.
        append_assoc told.written printed (text_after f rest)
        ∙ ap (λ t. told.written ++ t) (sym (takes.text rest))
        ∙ told.reached.text_whole (takes.whole ++ rest)
        ∙ ap text (sym (append_assoc told.reached.whole takes.whole rest));
    wrong_whole = λ rest.
        sym (takes.wrong_line rest)
        ∙ told.reached.wrong_whole (takes.whole ++ rest)
        ∙ ap first_wrong (sym (append_assoc told.reached.whole takes.whole rest));
    partial = takes.partial;
  };
  count = omega (arith, length-append told.read piece, told.count);
}

-- no complete line is wrong, and their text was written
pub whole-told : (i j o p : Option (List ℕ)) (e : Engine) (n : ℕ) → Told i j o p e n → WritesWhole i j o p
whole-told i j o p e n told = record {
  whole = told.reached.whole;
  begun = e.line.items;
  consumed = let P : List ℕ → Type 0 = Consumes i j in subst P told.reached.parts told.consumed;
  ended = told.reached.ended;
  partial = told.reached.partial;
  right = ap first_wrong (sym (append-nil told.reached.whole)) ∙ sym (told.reached.wrong_whole []);
  appended =
      let P : List ℕ → Type 0 = Appends o p in
      subst P (sym (append-nil told.written) ∙ told.reached.text_whole [] ∙ ap text (append-nil told.reached.whole)) told.appended;
}

take-front : (xs ys zs : List ℕ) → xs ++ ys ≡ zs → take (length xs) zs ≡ xs
take-front xs ys zs e = ap (take (length xs)) (sym e) ∙ take-append_seam xs ys

-- what was written is a prefix of the text of what was read
prefix-from : (i j o p : Option (List ℕ)) (read front more : List ℕ) → length read ≤ 1000000001 → Consumes i j read → Appends o p front → front ++ more ≡ text read → WritesPrefix i j o p
prefix-from i j o p read front more few consumed appended whole = record {
  read = read;
  few = few;
  consumed = consumed;
  count = length front;
  appended = let P : List ℕ → Type 0 = Appends o p in subst P (sym (take-front front more (text read) whole)) appended;
}

pub prefix-told : (i j o p : Option (List ℕ)) (e : Engine) (n : ℕ) → Told i j o p e n → n ≤ 1000000001 → WritesPrefix i j o p
prefix-told i j o p e n told few =
    prefix-from i j o p told.read told.written (text_left e []) (omega (arith, told.count)) told.consumed told.appended (says e told.read told.written told.reached [] ∙ ap text (append-nil told.read))

-- a chunk was read, and a prefix of its output was written
pub prefix-shown : (i j k o p q : Option (List ℕ)) (e : Engine) (n : ℕ) (piece shown more : List ℕ) → Told i j o p e n → Consumes j k piece
    → text_left e piece ≡ shown ++ more → Appends p q shown → n + length piece ≤ 1000000001 → WritesPrefix i k o q
prefix-shown i j k o p q e n piece shown more told consumed prints written few =
    prefix-from i k o q (told.read ++ piece) (told.written ++ shown) more
    (omega (arith, length-append told.read piece, told.count))
    (Consumes-trans i j k told.read piece told.consumed consumed)
    (Appends-trans o p q told.written shown told.appended written)
    (append_assoc told.written shown more ∙ ap (λ t. told.written ++ t) (sym prints) ∙ says e told.read told.written told.reached piece)

-- this is the first wrong line, however the input continues
pub line-stops : (i j k o p q : Option (List ℕ)) (e : Engine) (n : ℕ) (piece printed : List ℕ) (line : ℕ) → Told i j o p e n → Consumes j k piece
    → StopsBy e piece [] printed (Line line) → Appends p q printed → IfSome i (λ b. first_wrong b ≡ Some line) × IfSome i (λ b. Appends o q (text b))
line-stops None j k o p q e n piece printed line told consumed stops written = (tt, tt)
line-stops (Some b) None k o p q e n piece printed line told consumed stops written = absurd told.consumed
line-stops (Some b) (Some ys) None o p q e n piece printed line told consumed stops written = absurd consumed
line-stops (Some b) (Some ys) (Some zs) o p q e n piece printed line told consumed stops written =
    let whole : told.read ++ (piece ++ zs) ≡ b = ap (λ t. told.read ++ t) (sym consumed) ∙ sym told.consumed in
    let found = stops zs in
    let all : told.written ++ printed ≡ text b = ap (λ t. told.written ++ t) (sym found.0) ∙ says e told.read told.written told.reached (piece ++ zs) ∙ ap text whole in
    let P : List ℕ → Type 0 = Appends o q in (
      ap first_wrong (sym whole) ∙ sym (wrong-says e told.read told.written told.reached (piece ++ zs)) ∙ found.1,
      subst P all (Appends-trans o p q told.written printed told.appended written),
    )

-- at the end of the input
at-end : (i j o p q : Option (List ℕ)) (e : Engine) (n : ℕ) (printed : List ℕ) (w : Option ℕ) → Told i j o p e n → IsAtEnd j
    → text_left e [] ≡ printed → wrong_left e [] ≡ w → Appends p q printed → IfSome i (λ b. first_wrong b ≡ w) × IfSome i (λ b. Appends o q (text b))
at-end None j o p q e n printed w told end prints wrongs written = (tt, tt)
at-end (Some b) None o p q e n printed w told end prints wrongs written = absurd told.consumed
at-end (Some b) (Some ys) o p q e n printed w told end prints wrongs written =
    let whole : told.read ++ [] ≡ b = ap (λ t. told.read ++ t) (sym end) ∙ sym told.consumed in
    let all : told.written ++ printed ≡ text b = ap (λ t. told.written ++ t) (sym prints) ∙ says e told.read told.written told.reached [] ∙ ap text whole in
    let P : List ℕ → Type 0 = Appends o q in (
      ap first_wrong (sym whole) ∙ sym (wrong-says e told.read told.written told.reached []) ∙ wrongs,
      subst P all (Appends-trans o p q told.written printed told.appended written),
    )

pub ends-right : (i j o p q : Option (List ℕ)) (e : Engine) (n : ℕ) (printed : List ℕ) → Told i j o p e n → IsAtEnd j → Ends e [] printed → Appends p q printed
    → IfSome i (λ b. first_wrong b ≡ None) × IfSome i (λ b. Appends o q (text b))
ends-right i j o p q e n printed told end ends written = at-end i j o p q e n printed None told end ends.text ends.wrong_line written

pub ends-at-line : (i j o p q : Option (List ℕ)) (e : Engine) (n : ℕ) (printed : List ℕ) (line : ℕ) → Told i j o p e n → IsAtEnd j → EndsBy e [] printed (Line line) → Appends p q printed
    → IfSome i (λ b. first_wrong b ≡ Some line) × IfSome i (λ b. Appends o q (text b))
ends-at-line i j o p q e n printed line told end ends written = at-end i j o p q e n printed (Some line) told end ends.0 ends.1 written

-- all of the input was read
pub all-read : (i j o p : Option (List ℕ)) (e : Engine) (n : ℕ) → Told i j o p e n → IsAtEnd j → n ≤ 1000000000 → IfSome i (λ b. length b ≤ 1000000000)
all-read None j o p e n told end few = tt
all-read (Some b) None o p e n told end few = absurd told.consumed
all-read (Some b) (Some ys) o p e n told end few =
    let whole : told.read ≡ b = sym (append-nil told.read) ∙ ap (λ t. told.read ++ t) (sym end) ∙ sym told.consumed in
    let size : length told.read ≡ length b = ap length whole in
    omega (arith, size, told.count, few)

-- a prefix of the output was written
pub front-cut : (e : Engine) (piece start printed bytes : List ℕ) (a b : Option (List ℕ)) (n : ℕ) → start ≡ [] → PrintsFront e piece start printed → bytes ≡ printed
    → Appends a b (take n bytes) → WritesFront e piece a b
front-cut e piece start printed bytes a b n empty front same written = record {
  shown = take n bytes;
  more = drop n bytes ++ front.0;
  parts =
      ap (λ t. t ++ text_left e piece) (sym empty)
      ∙ front.1
      ∙ ap (λ t. t ++ front.0) (sym (take-append-drop n bytes ∙ same))
      ∙ append_assoc (take n bytes) (drop n bytes) front.0;
  appended = written;
}

-- between two reads
pub record Turns (input_old input_new output_old output_new : Option (List ℕ)) (e : Engine) (total chunk : ℕ) : Type 0 where
  pub size : chunk ≡ 8192
  pub most : total ≤ 1000000000
  pub few : e.number ≤ total
  pub told : Told input_old input_new output_old output_new e total

-- a read that returned no octets
pub told-empty : (i j k o p : Option (List ℕ)) (e : Engine) (n : ℕ) → Told i j o p e n → Consumes j k [] → Told i k o p e n
told-empty i j k o p e n told consumed = record {
  read = told.read;
  written = told.written;
  consumed = let P : List ℕ → Type 0 = Consumes i k in subst P (append-nil told.read) (Consumes-trans i j k told.read [] told.consumed consumed);
  appended = told.appended;
  reached = told.reached;
  count = told.count;
}

-- a read of n octets into the beginning of the buffer
pub read-piece : (j k : Option (List ℕ)) (n : ℕ) (buf rest : List ℕ) → n ≤ length buf → Consumes j k (take n buf) → Consumes j k (take n (buf ++ rest))
read-piece j k n buf rest inside consumed = let P : List ℕ → Type 0 = Consumes j k in subst P (sym (take-append-le n buf rest inside)) consumed

pub length-piece : (n : ℕ) (buf rest : List ℕ) → n ≤ length buf → length (take n (buf ++ rest)) ≡ n
length-piece n buf rest inside = omega (arith, length-take n (buf ++ rest), length-append buf rest)

pub room-some : (room total : ℕ) (chunk buf : List ℕ) → length chunk ≡ 8192 → total ≤ 1000000000 → room ≡ min 8192 (1000000001 - total) → length buf ≡ length (take room chunk) → 0 < length buf
room-some room total chunk buf size most is same = omega (arith, length-take room chunk)

pub length-chunk : (room total : ℕ) (chunk buf : List ℕ) → length chunk ≡ 8192 → room ≡ min 8192 (1000000001 - total) → length buf ≡ length (take room chunk) → length (buf ++ drop room chunk) ≡ 8192
length-chunk room total chunk buf size is same = omega (arith, length-take room chunk, length-append buf (drop room chunk), length-drop room chunk)

-- after a read the total is at most one above the limit
pub total-fits : (room total n : ℕ) (chunk buf : List ℕ) → length chunk ≡ 8192 → total ≤ 1000000000 → room ≡ min 8192 (1000000001 - total) → length buf ≡ length (take room chunk) → n ≤ length buf
    → total + n ≤ 1000000001
total-fits room total n chunk buf size most is same inside = omega (arith, length-take room chunk)
