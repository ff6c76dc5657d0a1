use Rattle.std.proofs.Common.{◌≡◌, ◌+◌, ℕ, length, refl, ap, sym, ◌∙◌, subst, arith}
use Rattle.std.proofs.lemmas.Option.{slice_get_within}
use Rattle.std.proofs.lemmas.Result.{err_from_is_err_and}
use Rattle.bpf_asm.specs.Token.{tokens}
use Rattle.bpf_asm.specs.Assembly.{token_lines, body_of, instruction_index}
use Rattle.bpf_asm.specs.Labels.{named}
use Rattle.bpf_asm.specs.Drafts.{HasInsn, IsInsnAt}
use Rattle.bpf_asm.proofs.Places.{left_more, line_at, all_read, place_no, place_yes, body_false}
use Rattle.bpf_asm.proofs.Jumps.{NoneBeforePlace, AreInsns, body_has, insn_answer, insn_made, kept_more, place_resolved, assembled, none_found}
use Rattle.bpf_asm.proofs.assembly.insns_of.Goals as goal

pub loop-line-init : goal.loop-line-init
loop-line-init c = record {
  left = refl;
  within = omega arith;
  bound = omega arith;
  here = refl;
  each = (ap length c.new.ensures.items, λ q i e. (let f = rw c.new.ensures.items at e in absurd (cc)));
  none = λ when other h. (let low = c.requires.none when other h in omega arith);
}

pub returns-in_err-insn : goal.returns-in_err-insn
returns-in_err-insn c =
    let p = err_from_is_err_and c.from_residual.result c.from_residual.ensures.1 in
    let inv = c.loop-line.invariant in
    let n = c.loop-line.at in
    let here = line_at c.args.text.now c.loop-line.rest.now c.in-Some.after.now n c.in-Some.line.now inv.left c.in-Some.ensures.lines in
    rw (p.1, p.2) (insn_answer (token_lines c.args.text.now) (named c.args.names.now) n c.loop-line.place (n + 1) (tokens c.in-Some.line.now) _ c.requires.table here inv.here refl inv.none c.in_err-insn.ensures)

pub loop-line-preserved-in_default-2 : goal.loop-line-preserved-in_default-2
loop-line-preserved-in_default-2 c =
    let inv = c.loop-line.invariant in
    let ls = token_lines c.args.text.now in
    let n = c.loop-line.at in
    let line = tokens c.in-Some.line.now in
    let here = line_at c.args.text.now c.loop-line.rest.now c.in-Some.after.now n c.in-Some.line.now inv.left c.in-Some.ensures.lines in
    record {
      left = left_more c.args.text.now c.loop-line.rest.now c.in-Some.after.now n (n + 1) c.in-Some.line.now inv.left c.in-Some.ensures.lines refl;
      within = (let inside = slice_get_within ls n line here in omega arith);
      bound = (let low = inv.bound in omega (arith, c.in-Some.ensures.shorter));
      here = inv.here ∙ sym (place_no ls n line here (body_false line (rw c.in_default-2.is at c.in_ok-insn.ensures)));
      each = inv.each;
      none = inv.none;
    }

pub loop-line-preserved : goal.loop-line-preserved
loop-line-preserved c =
    let inv = c.loop-line.invariant in
    let ls = token_lines c.args.text.now in
    let look = named c.args.names.now in
    let n = c.loop-line.at in
    let place = c.loop-line.place in
    let line = tokens c.in-Some.line.now in
    let here = line_at c.args.text.now c.loop-line.rest.now c.in-Some.after.now n c.in-Some.line.now inv.left c.in-Some.ensures.lines in
    let i = c.in-Some-2.insn in
    let has = subst (λ (k : ℕ). HasInsn look k (body_of line) i) inv.here (rw c.in-Some-2.is at c.in_ok-insn.ensures) in
    let yes = place_yes ls n line here (body_has line has.d.code has.d.operation has.draft.ws has.draft.written) in
    record {
      left = left_more c.args.text.now c.loop-line.rest.now c.in-Some.after.now n (n + 1) c.in-Some.line.now inv.left c.in-Some.ensures.lines refl;
      within = (let inside = slice_get_within ls n line here in omega arith);
      bound = (let low = inv.bound in omega (arith, c.in-Some.ensures.shorter));
      here = ap (λ (k : ℕ). k + 1) inv.here ∙ sym yes;
      each = kept_more (λ v. v.items) c.loop-line.kept c.keep-kept.result ls place i c.keep-kept.ensures inv.each (subst (λ (k : ℕ). IsInsnAt ls k i) (sym inv.here) (insn_made ls look n line i c.requires.table here has));
      none = subst (λ (k : ℕ). NoneBeforePlace ls (k + 1)) (sym inv.here) (place_resolved ls look n line i c.requires.table here has (subst (NoneBeforePlace ls) inv.here inv.none));
    }

pub returns-in-Some-kept : goal.returns-in-Some-kept
returns-in-Some-kept c =
    let inv = c.loop-line.invariant in
    let ls = token_lines c.args.text.now in
    let all = all_read c.args.text.now c.loop-line.rest.now c.loop-line.at inv.left c.in_default.ensures.lines in
    let within = inv.within in
    let end : c.loop-line.at ≡ length ls = omega arith in
    let are = rw c.in-Some-kept.is at inv.each in
    assembled ls (named c.args.names.now) c.in-Some-kept.insns.items c.requires.table c.requires.short (subst (λ (k : ℕ). AreInsns ls k c.in-Some-kept.insns.items) (inv.here ∙ ap (instruction_index ls) end) are)

pub returns-in-None : goal.returns-in-None
returns-in-None c =
    let inv = c.loop-line.invariant in
    let ls = token_lines c.args.text.now in
    let all = all_read c.args.text.now c.loop-line.rest.now c.loop-line.at inv.left c.in_default.ensures.lines in
    let within = inv.within in
    let end : c.loop-line.at ≡ length ls = omega arith in
    none_found ls (subst (NoneBeforePlace ls) (inv.here ∙ ap (instruction_index ls) end) inv.none)
