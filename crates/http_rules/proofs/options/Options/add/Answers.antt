use Rattle.std.proofs.Common.{◌∙◌, ◌||◌, ℕ, List, bytes_eq, ap, arith}
use Rattle.http_header.specs.Token.{lowercase}
use Rattle.http_rules.specs.Options.{has_name}
use Rattle.http_rules.proofs.Collected.{name_step}
use Rattle.http_rules.proofs.options.Options.add.Goals as goal

pub returns-clause-ok : goal.returns-clause-ok
returns-clause-ok c = λ rest whole h. record {
  count = omega (arith, h.count);
  few = omega arith;
  names = λ name. name_step name (lowercase c.args.name.now) rest whole _ _ (h.names name)
      (c.in_ok-put.ensures name ∙ ap (λ (xs : List ℕ). bytes_eq xs name || has_name c.args.self.now.names name) c.in_ok-name.ensures.ok);
}
