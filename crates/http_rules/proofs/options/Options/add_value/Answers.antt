use Rattle.std.proofs.Common.{◌++◌, rules}
use Rattle.std.specs.Option.{option_copied}
use Rattle.http_rules.specs.Options.{options_left}
use Rattle.http_rules.proofs.Collected.{next_part}
use Rattle.http_rules.proofs.options.Options.add_value.Goals as goal

pub returns-in_err-add_part-clause-many : goal.returns-in_err-add_part-clause-many
returns-in_err-add_part-clause-many c = λ rest whole h e.
    let others = option_copied c.split_part.result.1 in
    c.in_err-add_part.ensures.many (options_left others ++ rest) whole
    (rw (next_part c.in-Some.text.now c.split_part.result.0.now others rest c.split_part.ensures.value) at (rw c.in-Some.is at (c.loop-rest.invariant rest whole h)))
    (search (rules, e))

pub loop-rest-preserved : goal.loop-rest-preserved
loop-rest-preserved c = λ more whole h.
    let others = option_copied c.split_part.result.1 in
    c.in_ok-add_part.ensures.ok (options_left others ++ more) whole
    (rw (next_part c.in-Some.text.now c.split_part.result.0.now others more c.split_part.ensures.value) at (rw c.in-Some.is at (c.loop-rest.invariant more whole h)))
