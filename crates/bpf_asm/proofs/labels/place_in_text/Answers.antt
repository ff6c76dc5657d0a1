use Rattle.std.proofs.Common.{◌≡◌, ◌+◌, ◌-◌, ℕ, List, map, refl, ap, sym, ◌∙◌, arith}
use Rattle.bpf_asm.specs.Token.{tokens}
use Rattle.bpf_asm.specs.Assembly.{token_lines}
use Rattle.bpf_asm.specs.Labels.{found_from, behind}
use Rattle.bpf_asm.specs.Assembly.{has_body}
use Rattle.bpf_asm.proofs.Places.{place_mono, place_behind_line, left_more, line_at}
use Rattle.bpf_asm.proofs.Passes.{found_none_left, found_here, found_behind}
use Rattle.bpf_asm.proofs.labels.place_in_text.Goals as goal

pub loop-init : goal.loop-init
loop-init c = record {
  left = refl;
  here = refl;
  same = (let whole : c.args.lines - 0 ≡ c.args.lines = omega arith in ap (λ (k : ℕ). found_from 0 (token_lines c.args.text.now) k c.args.label.now) whole);
}

pub returns-in_default : goal.returns-in_default
returns-in_default c = sym (ap (λ (ls : List (List ℕ)). found_from c.loop.place (map tokens ls) (c.args.lines - c.loop.counter) c.args.label.now) c.in_default.ensures.lines) ∙ c.loop.invariant.same

pub returns-then-begins_with : goal.returns-then-begins_with
returns-then-begins_with c =
    let first = ap (map tokens) c.in-Some.ensures.lines in
    sym (found_here c.loop.place (tokens c.in-Some.line.now) (token_lines c.in-Some.after.now) (c.args.lines - c.loop.counter) (c.args.lines - (c.loop.counter + 1)) c.args.label.now (omega arith) (sym c.if-begins_with.ensures))
    ∙ sym (ap (λ (ls : List (List (List ℕ))). found_from c.loop.place ls (c.args.lines - c.loop.counter) c.args.label.now) first) ∙ c.loop.invariant.same

pub place_after-place-requires : goal.place_after-place-requires
place_after-place-requires c = omega (arith, place_mono (token_lines c.args.text.now) c.loop.counter c.args.lines (omega arith), c.loop.invariant.here, c.requires)

pub loop-preserved : goal.loop-preserved
loop-preserved c =
    let inv = c.loop.invariant in
    let e = c.in-Some.ensures.lines in
    let line = tokens c.in-Some.line.now in
    let here = line_at c.args.text.now c.loop.rest.now c.in-Some.after.now c.loop.counter c.in-Some.line.now inv.left e in
    let first = ap (map tokens) e in
    let after = c.place_after-place.ensures in
    record {
      left = left_more c.args.text.now c.loop.rest.now c.in-Some.after.now c.loop.counter (c.loop.counter + 1) c.in-Some.line.now inv.left e refl;
      here = after ∙ ap (λ (k : ℕ). behind k (has_body line)) inv.here ∙ place_behind_line (token_lines c.args.text.now) c.loop.counter line here;
      same = ap (λ (k : ℕ). found_from k (token_lines c.in-Some.after.now) (c.args.lines - (c.loop.counter + 1)) c.args.label.now) after
          ∙ sym (found_behind c.loop.place line (token_lines c.in-Some.after.now) (c.args.lines - c.loop.counter) (c.args.lines - (c.loop.counter + 1)) c.args.label.now (omega arith) (sym c.if-begins_with.ensures))
          ∙ sym (ap (λ (ls : List (List (List ℕ))). found_from c.loop.place ls (c.args.lines - c.loop.counter) c.args.label.now) first) ∙ inv.same;
    }

pub returns : goal.returns
returns c = sym (found_none_left c.loop.place (token_lines c.loop.rest.now) (c.args.lines - c.loop.counter) c.args.label.now (omega arith)) ∙ c.loop.invariant.same
