use Rattle.std.proofs.Common.{rules, ◌-◌, length}
use Rattle.capture.specs.Interface.{with_options}
use Rattle.capture.proofs.Options.{with_stop, with_next, with_end}
use Rattle.capture.proofs.interface.with_options.Goals as goal

pub returns-then-not-has_option : goal.returns-then-not-has_option
returns-then-not-has_option c =
    with_stop c.args.order (length c.args.options.now - c.options.counter) c.options.interface (with_options c.args.order (length c.args.options.now) c.args.said c.args.options.now) c.options.rest.now (search rules) c.options.invariant

pub options-preserved : goal.options-preserved
options-preserved c =
    with_next c.args.order (length c.args.options.now) c.options.counter c.half-code.result c.options.interface c.with_option-interface.result (with_options c.args.order (length c.args.options.now) c.args.said c.args.options.now) c.options.rest.now c.value_of.result.now c.behind_option-rest.result.now (search rules) (search rules) c.half-code.ensures c.value_of.ensures c.with_option-interface.ensures c.behind_option-rest.ensures c.options.invariant

pub returns : goal.returns
returns c =
    with_end c.args.order (length c.args.options.now) c.options.counter c.options.interface (with_options c.args.order (length c.args.options.now) c.args.said c.args.options.now) c.options.rest.now (search rules) c.options.invariant
