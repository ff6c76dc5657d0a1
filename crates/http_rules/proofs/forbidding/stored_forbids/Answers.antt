use Rattle.std.proofs.Common.{◌≡◌, ◌+◌, ◌∙◌, [], ◌∷◌, ◌||◌, Bool, true, false, drop, rules, sym, ap}
use Rattle.http_rules.specs.Forbidding.{forbids}
use Rattle.http_rules.specs.Validators.{stored_fields}
use Rattle.http_rules.proofs.StoredDirectives.{forbids_step}
use Rattle.http_rules.proofs.forbidding.stored_forbids.Goals as goal

pub returns-then-forbids_at : goal.returns-then-forbids_at
returns-then-forbids_at c =
    let field = c.index-object-i.result in
    let others = forbids c.args.name.now (stored_fields (drop (c.loop-i.i + 1) c.args.object.now)) in
    let step = forbids_step c.args.name.now c.args.object.now c.loop-i.i field c.loop-i-test.true c.index-object-i.is in
    let found : forbids c.args.name.now ((field.0.items, field.1.items) ∷ []) ≡ true = search rules in
    sym (c.loop-i.invariant ∙ step ∙ ap (λ (b : Bool). b || others) found)

pub loop-i-preserved : goal.loop-i-preserved
loop-i-preserved c =
    let field = c.index-object-i.result in
    let others = forbids c.args.name.now (stored_fields (drop (c.loop-i.i + 1) c.args.object.now)) in
    let step = forbids_step c.args.name.now c.args.object.now c.loop-i.i field c.loop-i-test.true c.index-object-i.is in
    let missing : forbids c.args.name.now ((field.0.items, field.1.items) ∷ []) ≡ false = search rules in
    c.loop-i.invariant ∙ step ∙ ap (λ (b : Bool). b || others) missing
