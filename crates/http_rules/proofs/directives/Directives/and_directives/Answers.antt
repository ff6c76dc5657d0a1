use Rattle.std.proofs.Common.{◌++◌}
use Rattle.std.specs.Option.{option_copied}
use Rattle.http_rules.specs.Elements.{directives_left}
use Rattle.http_rules.proofs.Elements.{next_directive}
use Rattle.http_rules.proofs.directives.Directives.and_directives.Goals as goal

pub loop-rest-preserved : goal.loop-rest-preserved
loop-rest-preserved c = λ more whole h.
    let others = option_copied c.split_element.result.1 in
    c.and_element-found.ensures (directives_left others ++ more) whole
    (rw (next_directive c.in-Some.text.now c.split_element.result.0.now others more c.split_element.ensures.value) at (rw c.in-Some.is at (c.loop-rest.invariant more whole h)))

pub returns : goal.returns
returns c = λ rest whole h. rw c.in_default.is at (c.loop-rest.invariant rest whole h)
