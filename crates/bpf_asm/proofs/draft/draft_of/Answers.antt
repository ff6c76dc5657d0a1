use Rattle.std.proofs.Common.{◌≡◌, true, refl, sym, ◌∷◌}
use Rattle.bpf_check.specs.Operation.{table}
use Rattle.bpf_asm.specs.Shown.{shown_words, shown_row}
use Rattle.bpf_asm.specs.Token.{tokens}
use Rattle.bpf_asm.specs.Spelling.{kinds}
use Rattle.bpf_asm.specs.Reading.{has_mnemonic}
use Rattle.bpf_asm.specs.Drafts.{shown_draft}
use Rattle.bpf_asm.proofs.Fill.{read_open}
use Rattle.bpf_asm.proofs.Codes.{table_found, table_mnemonic}
use Rattle.bpf_asm.proofs.Bodies.{no_form, found_body, draft_made}
use Rattle.bpf_asm.proofs.draft.draft_of.Goals as goal

pub returns-in_default : goal.returns-in_default
returns-in_default c =
    let w = c.args.word.now in
    let ts = tokens c.args.operands.now in
    let m : has_mnemonic table w ≡ true = (let e = c.is_mnemonic.ensures in cc) in
    (refl, table_mnemonic w m, no_form w ts (sym (rw c.in_default.is at c.row_of.ensures)))

pub keep-requires : goal.keep-requires
keep-requires c =
    let w = c.args.word.now in
    let ts = tokens c.args.operands.now in
    let r = shown_row c.in-Some.row in
    let f = table_found w ts r (sym (rw c.in-Some.is at c.row_of.ensures)) in
    read_open (kinds r.operation) ts r.words f.filled

pub returns-in-Some-keep : goal.returns-in-Some-keep
returns-in-Some-keep c =
    let w = c.args.word.now in
    let ts = tokens c.args.operands.now in
    let r = shown_row c.in-Some.row in
    let f = table_found w ts r (sym (rw c.in-Some.is at c.row_of.ensures)) in
    let k = c.in-Some-keep.ensures in
    (k.0, draft_made (w ∷ ts) (shown_draft c.in-Some-keep.draft) r (shown_words c.in-Some.row.words) (found_body w ts r f) k.1 k.2 refl k.3)

pub returns-in-None : goal.returns-in-None
returns-in-None c =
    let w = c.args.word.now in
    let ts = tokens c.args.operands.now in
    let r = shown_row c.in-Some.row in
    let f = table_found w ts r (sym (rw c.in-Some.is at c.row_of.ensures)) in
    (refl, (r.code, r.operation, r.words, found_body w ts r f, c.in-None.ensures))
