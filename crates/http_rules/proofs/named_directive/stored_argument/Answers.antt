use Rattle.std.proofs.Common.{◌≡◌, ◌+◌, ◌∙◌, ℕ, List, [], ◌∷◌, drop, Option, Some, None, rules, sym, ap}
use Rattle.std.specs.Option.{option_or}
use Rattle.http_rules.specs.Directives.{argument}
use Rattle.http_rules.specs.Validators.{stored_fields}
use Rattle.http_rules.proofs.StoredDirectives.{argument_step}
use Rattle.http_rules.proofs.named_directive.stored_argument.Goals as goal

pub returns-in-Some : goal.returns-in-Some
returns-in-Some c =
    let field = c.index-object-i.result in
    let others = argument c.args.name.now (stored_fields (drop (c.loop-i.i + 1) c.args.object.now)) in
    let step = argument_step c.args.name.now c.args.object.now c.loop-i.i field c.loop-i-test.true c.index-object-i.is in
    let found : argument c.args.name.now ((field.0.items, field.1.items) ∷ []) ≡ Some c.in-Some.argument.now = search rules in
    sym (c.loop-i.invariant ∙ step ∙ ap (λ (a : Option (List ℕ)). option_or a others) found)

pub loop-i-preserved : goal.loop-i-preserved
loop-i-preserved c =
    let field = c.index-object-i.result in
    let others = argument c.args.name.now (stored_fields (drop (c.loop-i.i + 1) c.args.object.now)) in
    let step = argument_step c.args.name.now c.args.object.now c.loop-i.i field c.loop-i-test.true c.index-object-i.is in
    let missing : argument c.args.name.now ((field.0.items, field.1.items) ∷ []) ≡ None = search rules in
    c.loop-i.invariant ∙ step ∙ ap (λ (a : Option (List ℕ)). option_or a others) missing
