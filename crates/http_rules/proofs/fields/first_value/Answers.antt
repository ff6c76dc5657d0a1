use Rattle.std.proofs.Common.{◌∙◌, ap, option_map}
use Rattle.http_header.specs.FieldValue.{FieldValue}
use Rattle.http_rules.proofs.Heads.{first_value-get}
use Rattle.http_rules.proofs.fields.first_value.Goals as goal

pub returns-in-Some : goal.returns-in-Some
returns-in-Some c =
    rw c.as_bytes.ensures.value (ap (option_map (λ (v : FieldValue). v.bytes)) (rw c.requires at c.in-Some.ensures.value)
    ∙ first_value-get c.args.name.now c.args.head.now c.keys_len-names.ensures.valid.unique)

pub returns-in-None : goal.returns-in-None
returns-in-None c =
    ap (option_map (λ (v : FieldValue). v.bytes)) (rw c.requires at c.in-None.ensures.value)
    ∙ first_value-get c.args.name.now c.args.head.now c.keys_len-names.ensures.valid.unique
