use Rattle.std.proofs.Common.{◌≡◌, ◌+◌, ◌∙◌, [], ◌∷◌, ◌||◌, Bool, true, false, drop, rules, sym, ap}
use Rattle.http_rules.specs.Directives.{has_unclosed}
use Rattle.http_rules.specs.Validators.{stored_fields}
use Rattle.http_rules.proofs.StoredDirectives.{unclosed_step}
use Rattle.http_rules.proofs.named_directive.has_stored_unclosed.Goals as goal

pub returns-then-is_unclosed_at : goal.returns-then-is_unclosed_at
returns-then-is_unclosed_at c =
    let field = c.index-object-i.result in
    let others = has_unclosed (stored_fields (drop (c.loop-i.i + 1) c.args.object.now)) in
    let step = unclosed_step c.args.object.now c.loop-i.i field c.loop-i-test.true c.index-object-i.is in
    let found : has_unclosed ((field.0.items, field.1.items) ∷ []) ≡ true = search rules in
    sym (c.loop-i.invariant ∙ step ∙ ap (λ (b : Bool). b || others) found)

pub loop-i-preserved : goal.loop-i-preserved
loop-i-preserved c =
    let field = c.index-object-i.result in
    let others = has_unclosed (stored_fields (drop (c.loop-i.i + 1) c.args.object.now)) in
    let step = unclosed_step c.args.object.now c.loop-i.i field c.loop-i-test.true c.index-object-i.is in
    let missing : has_unclosed ((field.0.items, field.1.items) ∷ []) ≡ false = search rules in
    c.loop-i.invariant ∙ step ∙ ap (λ (b : Bool). b || others) missing
