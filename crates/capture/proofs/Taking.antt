-- What is taken out of a reader piece by piece.
use Rattle.std.proofs.Common.{◌≡◌, ℕ, ◌+◌, ◌-◌, ◌≤◌, List, ◌++◌, Option, None, Some, sym, ap, ◌∙◌, subst, length, take, slice_range, arith, le_refl, drop_at, length-take-le, take_all}
use Rattle.std.proofs.lemmas.Slice.{take-put_mid_below}
use Rattle.std.specs.Io.KnownBytes.{Consumes, Keeps, IsAtEnd}
use Rattle.std.proofs.KnownBytes.{Consumes-trans, Consumes-kept}
use borrow.Rule.Slice.PartMut.{put_mid, post_of}
use lib.Seq.{take-add, take-append-le}
use Rattle.capture.specs.declared.order.Order.{Order}
use Rattle.capture.specs.declared.record.RecordHead.{RecordHead}
use Rattle.capture.specs.Fields.{word}
use Rattle.capture.specs.Record.{TakesRecord}

take_split : (a b : ℕ) (old new : List ℕ) → a ≤ b → take a new ≡ take a old → take a old ++ slice_range new a b ≡ take b new
take_split a b old new h front =
    let same : a + (b - a) ≡ b = omega arith in
    ap (λ l. l ++ slice_range new a b) (sym front) ∙ sym (take-add a (b - a) new) ∙ ap (λ n. take n new) same

slice_range-put_mid : (a k n : ℕ) (xs ys : List ℕ) → a ≤ length xs → n ≤ length ys → slice_range (put_mid a k xs ys) a (a + n) ≡ take n ys
slice_range-put_mid a k n xs ys within fits =
    let same : (a + n) - a ≡ n = omega arith in
    let after = post_of a k xs in
    ap (take ((a + n) - a)) (drop_at (take a xs) (ys ++ after) a (length-take-le a xs within)) ∙ ap (λ m. take m (ys ++ after)) same ∙ take-append-le n ys after fits

-- one more read behind what was read so far
pub took_more : (a b c : Option (List ℕ)) (at n : ℕ) (old piece : List ℕ) → at ≤ length old → n ≤ length piece
    → Consumes a b (take at old) → Consumes b c (take n piece) → Consumes a c (take (at + n) (put_mid at (length old - at) old piece))
took_more a b c at n old piece within fits first second =
    let room = length old - at in
    let part = slice_range-put_mid at room n old piece within fits in
    let joined = take_split at (at + n) old (put_mid at room old piece) (omega arith) (take-put_mid_below _ _ _ _ _ (le_refl _) within) in
    subst (Consumes a c) (ap (λ l. take at old ++ l) (sym part) ∙ joined) (Consumes-trans a b c (take at old) (take n piece) first second)

-- a read that failed
pub took_none : (a b c : Option (List ℕ)) (at : ℕ) (old piece : List ℕ) → at ≤ length old
    → Consumes a b (take at old) → Keeps b c → Consumes a c (take at (put_mid at (length old - at) old piece))
took_none a b c at old piece within first kept =
    subst (Consumes a c) (sym (take-put_mid_below _ _ _ _ _ (le_refl _) within)) (Consumes-kept a b c (take at old) first kept)

-- nothing was taken, and the reader is at its end
pub was_at_end : (a b : Option (List ℕ)) (n : ℕ) (xs : List ℕ) → n ≡ 0 → Consumes a b (take n xs) → IsAtEnd b → IsAtEnd a
was_at_end None b n xs none taken end = tt
was_at_end (Some x) None n xs none taken end = absurd taken
was_at_end (Some x) (Some y) n xs none taken end = taken ∙ ap (λ m. take m xs ++ y) none ∙ end

-- a header and the captured octets are a record
pub takes_record : (order : Order) (a b c : Option (List ℕ)) (n : ℕ) (header captured : List ℕ) (head : RecordHead) → length header ≡ 16 → 16 ≤ n
    → Consumes a b (take n header) → Consumes b c captured
    → head.seconds ≡ word order header 0 → head.fraction ≡ word order header 4 → length captured ≡ word order header 8 → head.original ≡ word order header 12
    → TakesRecord order a c head captured
takes_record order None b c n header captured head long all first second s f l o = tt
takes_record order (Some x) None c n header captured head long all first second s f l o = absurd first
takes_record order (Some x) (Some y) None n header captured head long all first second s f l o = absurd second
takes_record order (Some x) (Some y) (Some z) n header captured head long all first second s f l o =
    let whole : take n header ≡ header = take_all n header (omega (arith, long, all)) in
    record {
      header = header;
      long = long;
      parts = first ∙ ap (λ h. h ++ y) whole ∙ ap (λ r. header ++ r) second;
      seconds_is = s;
      fraction_is = f;
      captured_is = l;
      original_is = o;
    }
