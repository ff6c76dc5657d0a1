use Rattle.std.proofs.Common.{◌+◌, ◌∙◌, arith}
use Rattle.std.specs.Str.Lines.{lines}
use Rattle.bpf_check.proofs.ListingFaults.{here, left_more, blank_more, blank_all}
use Rattle.bpf_check.proofs.listing.first_text_in.Goals as goal

pub returns-then-not-is_empty_line-clause-place : goal.returns-then-not-is_empty_line-clause-place
returns-then-not-is_empty_line-clause-place c = record {
  line = c.in-Some.line.now;
  found = here (lines c.args.text.now) (lines c.loop-line.rest.now) _ c.loop-line.at c.in-Some.line.now c.loop-line.invariant.left c.in-Some.ensures.lines;
  some = λ e. (let f = c.is_empty_line.ensures.1 e in let b = c.if-not-is_empty_line.true in cc);
  before = c.loop-line.invariant.before;
}

pub loop-line-preserved : goal.loop-line-preserved
loop-line-preserved c =
    let ls = lines c.args.text.now in
    let inv = c.loop-line.invariant in
    let e = c.in-Some.ensures.lines in
    let blank = c.is_empty_line.ensures.0 c.if-not-is_empty_line.false in
    record {
      left = left_more ls (lines c.loop-line.rest.now) _ c.loop-line.at (c.loop-line.at + 1) c.in-Some.line.now inv.left e (omega arith);
      before = blank_more ls c.loop-line.at c.in-Some.line.now inv.before (here ls (lines c.loop-line.rest.now) _ c.loop-line.at c.in-Some.line.now inv.left e) blank;
      bound = omega (arith, c.in-Some.ensures.shorter);
    }

pub returns-clause-place : goal.returns-clause-place
returns-clause-place c = blank_all (lines c.args.text.now) c.loop-line.at c.loop-line.invariant.before (c.loop-line.invariant.left ∙ c.in_default.ensures.lines)
