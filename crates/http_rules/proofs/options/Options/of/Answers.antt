use Rattle.std.proofs.Common.{◌≡◌, ap, map, flat_map, codes, rules}
use Rattle.http_rules.specs.Fields.{fields_of, values_of}
use Rattle.http_rules.specs.Forwarding.{options, options_in}
use Rattle.http_rules.proofs.options.Options.of.Goals as goal

pub loop-value-init : goal.loop-value-init
loop-value-init c =
    let values : map (λ v. v.bytes) c.into_iter-value-iterator.result ≡ values_of (codes "connection") (fields_of c.args.head.now) = search rules in
    let same : flat_map options_in (map (λ v. v.bytes) c.into_iter-value-iterator.result) ≡ options (fields_of c.args.head.now)
    = ap (flat_map options_in) values in
    (search rules, search rules, rw same (c.none-found.ensures (options (fields_of c.args.head.now))))
