use Rattle.std.proofs.Common.{map, sym, arith}
use Rattle.bpf_asm.specs.Shown.{shown_words}
use Rattle.bpf_asm.specs.Token.{tokens}
use Rattle.bpf_asm.specs.Spelling.{kind}
use Rattle.bpf_asm.proofs.Fill.{fill_opens, number_opens, label_opens}
use Rattle.bpf_asm.proofs.spelling.+words_in.Goals as goal

pub put_first-requires : goal.put_first-requires
put_first-requires t c =
    let long = fill_opens (map kind c.in-Some.rest.now) (tokens c.in_ok-front-in-Number.front.left.now) (shown_words c.in_ok-words-in-Number.words) (sym c.in_ok-words-in-Number.ensures) in
    let opens = number_opens c.args.pieces.now c.in-Some.rest.now _ c.in-Some.ensures.cases.0 c.in-Number.is in
    let few = c.requires in
    omega arith

pub put_first-requires-in-Label : goal.put_first-requires-in-Label
put_first-requires-in-Label t c =
    let long = fill_opens (map kind c.in-Some.rest.now) (tokens c.in_ok-front-in-Label.front.left.now) (shown_words c.in_ok-words-in-Label.words) (sym c.in_ok-words-in-Label.ensures) in
    let opens = label_opens c.args.pieces.now c.in-Some.rest.now _ c.in-Some.ensures.cases.0 c.in-Label.is in
    let few = c.requires in
    omega arith
