use Rattle.std.proofs.Common.{◌≡◌, ◌+◌, ◌*◌, ◌≤◌, ℕ, List, length, ap, sym, ◌∙◌, subst, arith}
use Rattle.std.proofs.lemmas.Option.{slice_get_within}
use Rattle.std.proofs.lemmas.Result.{err_from_is_err_and}
use Rattle.bpf_check.specs.Accepted.{most_insns}
use Rattle.bpf_asm.specs.Token.{tokens}
use Rattle.bpf_asm.specs.Assembly.{token_lines, label_of, instruction_index}
use Rattle.bpf_asm.specs.Labels.{named, named_by, LabelKept}
use Rattle.bpf_asm.specs.Drafts.{Counted, CountRefused, IsTable, NoneBefore}
use Rattle.bpf_asm.proofs.Places.{left_more, line_at, all_read}
use Rattle.bpf_asm.proofs.Passes.{label_answer, after_label, table_more, body_answer, after_body, after_limit, place_behind}
use Rattle.bpf_asm.proofs.assembly.names_of.Goals as goal

pub returns-in_err-names : goal.returns-in_err-names
returns-in_err-names c =
    let p = err_from_is_err_and c.from_residual.result c.from_residual.ensures.1 in
    let inv = c.loop-line.invariant in
    let n = c.loop-line.names.lines in
    let here = line_at c.args.text.now c.loop-line.rest.now c.in-Some.after.now n c.in-Some.line.now inv.left c.in-Some.ensures.lines in
    rw (p.1, p.2) (label_answer (token_lines c.args.text.now) n (named c.loop-line.names) (tokens c.in-Some.line.now) _ here inv.table inv.none c.in_err-names.ensures)

pub returns-in_err-place : goal.returns-in_err-place
returns-in_err-place c =
    let p = err_from_is_err_and c.from_residual-in_err-place.result c.from_residual-in_err-place.ensures.1 in
    let inv = c.loop-line.invariant in
    let ls = token_lines c.args.text.now in
    let n = c.loop-line.names.lines in
    let line = tokens c.in-Some.line.now in
    let here = line_at c.args.text.now c.loop-line.rest.now c.in-Some.after.now n c.in-Some.line.now inv.left c.in-Some.ensures.lines in
    let named_so = c.in_ok-names.ensures in
    let fault = c.in_err-place.field-0.0 in
    let none = after_label ls n (named c.loop-line.names) c.loop-line.names.kept c.in_ok-names.names.kept c.loop-line.place line here inv.table named_so.2 inv.none in
    let at_place = subst (λ (k : ℕ). CountRefused k c.in_ok-names.names.lines (tokens c.body_in.result.now) fault) inv.here c.in_err-place.ensures in
    let at_line = subst (λ (k : ℕ). CountRefused (instruction_index ls n) k (tokens c.body_in.result.now) fault) named_so.1 at_place in
    let refused = subst (λ (b : List (List ℕ)). CountRefused (instruction_index ls n) (n + 1) b fault) c.body_in.ensures at_line in
    rw (p.1, p.2) (body_answer ls n line fault here none refused)

pub loop-line-preserved : goal.loop-line-preserved
loop-line-preserved c =
    let inv = c.loop-line.invariant in
    let text = c.args.text.now in
    let ls = token_lines text in
    let n = c.loop-line.names.lines in
    let old = c.loop-line.names.kept in
    let new = c.in_ok-names.names in
    let line = tokens c.in-Some.line.now in
    let here = line_at text c.loop-line.rest.now c.in-Some.after.now n c.in-Some.line.now inv.left c.in-Some.ensures.lines in
    let named_so = c.in_ok-names.ensures in
    let next = c.in_ok-place.place in
    let same_text = named_so.0 ∙ inv.text in
    let table = subst (λ (t : List ℕ). IsTable ls n (named_by old (token_lines t) n)) inv.text inv.table in
    let kept_so = subst (λ (t : List ℕ). LabelKept (named_by old (token_lines t) n) old new.kept c.loop-line.place (label_of line)) inv.text named_so.2 in
    let kept = subst (λ (k : ℕ). LabelKept (named_by old ls n) old new.kept k (label_of line)) inv.here kept_so in
    let counted_so = subst (λ (k : ℕ). Counted k next (tokens c.body_in.result.now)) inv.here c.in_ok-place.ensures in
    let counted = subst (λ (b : List (List ℕ)). Counted (instruction_index ls n) next b) c.body_in.ensures counted_so in
    let short : instruction_index ls n ≤ most_insns = subst (λ (k : ℕ). k ≤ most_insns) inv.here inv.short in
    let behind = place_behind ls n next line here short counted in
    let more = table_more ls n old new.kept line here table kept in
    let more_text = subst (λ (t : List ℕ). IsTable ls (n + 1) (named_by new.kept (token_lines t) (n + 1))) (sym same_text) more in
    record {
      text = same_text;
      left = left_more text c.loop-line.rest.now c.in-Some.after.now n new.lines c.in-Some.line.now inv.left c.in-Some.ensures.lines named_so.1;
      within = (let inside = slice_get_within ls n line here in let step = named_so.1 in omega arith);
      bound = (let step = named_so.1 in let low = inv.bound in omega (arith, c.in-Some.ensures.shorter));
      table = subst (λ (k : ℕ). IsTable ls k (named_by new.kept (token_lines new.text.now) k)) (sym named_so.1) more_text;
      here = behind.here ∙ ap (instruction_index ls) (sym named_so.1);
      short = behind.short;
      none = subst (λ (k : ℕ). NoneBefore ls (3 * k)) (sym named_so.1)
          (after_limit ls n next line here counted (after_body ls n (instruction_index ls n) next line here counted (after_label ls n (named_by old ls n) old new.kept (instruction_index ls n) line here table kept inv.none)));
    }

pub returns : goal.returns
returns c =
    let inv = c.loop-line.invariant in
    let ls = token_lines c.args.text.now in
    let all = all_read c.args.text.now c.loop-line.rest.now c.loop-line.names.lines inv.left c.in_default.ensures.lines in
    let within = inv.within in
    let end : c.loop-line.names.lines ≡ length ls = omega arith in
    let here = inv.here ∙ ap (instruction_index ls) end in (
      subst (λ (k : ℕ). IsTable ls k (named c.loop-line.names)) end inv.table,
      subst (λ (k : ℕ). k ≤ most_insns) here inv.short,
      subst (λ (k : ℕ). NoneBefore ls (3 * k)) end inv.none,
    )
