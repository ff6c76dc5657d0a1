use Rattle.std.proofs.Common.{◌≡◌, ◌++◌, ◌∙◌, List, ℕ, Option, None, Some, map, flat_map, rules, sym, ap}
use Rattle.std.specs.Option.{option_or}
use Rattle.http_rules.specs.Fields.{fields_of}
use Rattle.http_rules.specs.Directives.{argument, directives_in, first_argument}
use Rattle.http_rules.proofs.Named.{first_argument-append}
use Rattle.http_rules.proofs.named_directive.argument_of.Goals as goal

pub returns-in-Some-argument_in : goal.returns-in-Some-argument_in
returns-in-Some-argument_in c =
    let others = flat_map directives_in (map (λ v. v.bytes) c.next.new.self) in
    let same : flat_map directives_in (map (λ v. v.bytes) c.loop-value.value-iterator) ≡ directives_in c.as_bytes.result.now ++ others
    = search rules in
    let before : argument c.args.name.now (fields_of c.args.head.now) ≡ first_argument c.args.name.now (directives_in c.as_bytes.result.now ++ others)
    = rw same at (c.loop-value.invariant.2) in
    let found : first_argument c.args.name.now (directives_in c.as_bytes.result.now) ≡ Some c.in-Some-argument_in.argument.now = search rules in
    sym (before ∙ first_argument-append c.args.name.now (directives_in c.as_bytes.result.now) others
    ∙ ap (λ (o : Option (List ℕ)). option_or o (first_argument c.args.name.now others)) found)

pub loop-value-preserved : goal.loop-value-preserved
loop-value-preserved c =
    let others = flat_map directives_in (map (λ v. v.bytes) c.next.new.self) in
    let same : flat_map directives_in (map (λ v. v.bytes) c.loop-value.value-iterator) ≡ directives_in c.as_bytes.result.now ++ others
    = search rules in
    let before : argument c.args.name.now (fields_of c.args.head.now) ≡ first_argument c.args.name.now (directives_in c.as_bytes.result.now ++ others)
    = rw same at (c.loop-value.invariant.2) in
    let missing : first_argument c.args.name.now (directives_in c.as_bytes.result.now) ≡ None = search rules in (
      search rules,
      search rules,
      before ∙ first_argument-append c.args.name.now (directives_in c.as_bytes.result.now) others
          ∙ ap (λ (o : Option (List ℕ)). option_or o (first_argument c.args.name.now others)) missing,
    )
