use Rattle.std.proofs.Common.{◌≡◌, ◌+◌, arith, refl, ap, ◌∙◌, length}
use Rattle.std.proofs.lemmas.Result.{err_from_is_err_and}
use Rattle.std.specs.Str.Lines.{lines}
use Rattle.bpf_check.specs.Listing.{SaysAt, fields}
use Rattle.bpf_check.proofs.ListingFaults.{count_answer, line_answer, missing_answer, extra_answer, memory_answer, none_counted, none_further, none_left, kept_more, left_more, here, inside, finished}
use Rattle.bpf_check.proofs.listing.read.Goals as goal

pub returns-in_err-count : goal.returns-in_err-count
returns-in_err-count c =
    let p = err_from_is_err_and c.from_residual.result c.from_residual.ensures.1 in
    let ls = lines c.args.text.now in
    rw (p.1, p.2) (count_answer ls c.in-Some.first.now c.in_err-count.field-0.0 (here ls ls _ 0 c.in-Some.first.now refl c.in-Some.ensures.lines) c.in_err-count.ensures)

pub loop-place-init : goal.loop-place-init
loop-place-init c =
    let ls = lines c.args.text.now in
    let first = c.in-Some.first.now in
    let e = c.in-Some.ensures.lines in
    let counted : SaysAt ls 0 _ = (first, here ls ls _ 0 first refl e, c.in_ok-count.ensures.0) in
    record {
      counted = counted;
      short = c.in_ok-count.ensures.1;
      left = left_more ls ls _ 0 1 first refl e refl;
      inside = inside ls ls _ 0 first refl e;
      bound = omega (arith, c.in-Some.ensures.shorter);
      each = (ap length c.new.ensures.items, λ place i e. (let f = rw c.new.ensures.items at e in absurd (cc)));
      none = none_counted ls c.in_ok-count.count counted c.in_ok-count.ensures.1;
    }

pub returns-in_default-next_line : goal.returns-in_default-next_line
returns-in_default-next_line c =
    let inv = c.loop-place.invariant in
    let ls = lines c.args.text.now in
    missing_answer ls c.in_ok-count.count c.loop-place.place inv.none inv.counted (omega arith) (none_left ls (c.loop-place.place + 1) (inv.left ∙ c.in_default-next_line.ensures.lines))

pub returns-in_err-insn_of : goal.returns-in_err-insn_of
returns-in_err-insn_of c =
    let p = err_from_is_err_and c.from_residual-in_err-insn_of.result c.from_residual-in_err-insn_of.ensures.1 in
    let inv = c.loop-place.invariant in
    let ls = lines c.args.text.now in
    let line = c.in-Some-next_line.line.now in
    rw (p.1, p.2) (line_answer ls c.in_ok-count.count c.loop-place.place (c.loop-place.place + 2) line c.in_err-insn_of.field-0.0 inv.none inv.counted (omega arith) (here ls (lines c.loop-place.rest.now) _ (c.loop-place.place + 1) line inv.left c.in-Some-next_line.ensures.lines) refl c.in_err-insn_of.ensures)

pub loop-place-preserved : goal.loop-place-preserved
loop-place-preserved c =
    let inv = c.loop-place.invariant in
    let ls = lines c.args.text.now in
    let rest = lines c.loop-place.rest.now in
    let place = c.loop-place.place in
    let line = c.in-Some-next_line.line.now in
    let e = c.in-Some-next_line.ensures.lines in
    let i = c.in_ok-insn_of.field-0 in
    let fine = c.in_ok-insn_of.ensures in
    let says : SaysAt ls (place + 1) (fields i) = (line, here ls rest _ (place + 1) line inv.left e, fine.0) in
    record {
      counted = inv.counted;
      short = inv.short;
      left = left_more ls rest _ (place + 1) (place + 1 + 1) line inv.left e (omega arith);
      inside = inside ls rest _ (place + 1) line inv.left e;
      bound = omega (arith, c.in-Some-next_line.ensures.shorter, inv.bound);
      each = kept_more (λ v. v.items) c.loop-place.kept c.keep-kept.result ls place i c.keep-kept.ensures inv.each says fine.1;
      none = none_further ls c.in_ok-count.count place i inv.none inv.counted (omega arith) says fine.1;
    }

pub returns-in-Some-first_text_in : goal.returns-in-Some-first_text_in
returns-in-Some-first_text_in c =
    let inv = c.loop-place.invariant in
    let same : c.loop-place.place ≡ c.in_ok-count.count = omega arith in
    extra_answer (lines c.args.text.now) (lines c.loop-place.rest.now) c.in_ok-count.count c.in-Some-first_text_in.more _ (rw same at inv.none) inv.counted (rw same at inv.inside) (rw same at inv.left) c.in-Some-first_text_in.ensures.place refl

pub returns-in-Some-kept : goal.returns-in-Some-kept
returns-in-Some-kept c =
    let inv = c.loop-place.invariant in
    let same : c.loop-place.place ≡ c.in_ok-count.count = omega arith in
    let kept = rw c.in-Some-kept.is at inv.each in
    let long : c.in_ok-count.count ≡ length c.in-Some-kept.insns.items = omega (arith, kept.0) in
    finished (lines c.args.text.now) (lines c.loop-place.rest.now) c.in_ok-count.count c.in-Some-kept.insns.items inv.counted inv.short long kept.1 (rw same at inv.left) c.in_default-first_text_in.ensures.place

pub returns-in-None : goal.returns-in-None
returns-in-None c =
    let inv = c.loop-place.invariant in
    let same : c.loop-place.place ≡ c.in_ok-count.count = omega arith in
    memory_answer (lines c.args.text.now) (lines c.loop-place.rest.now) c.in_ok-count.count (rw same at inv.none) inv.counted inv.short (rw same at inv.inside) (rw same at inv.left) c.in_default-first_text_in.ensures.place
