use Rattle.http_rules.proofs.Heads.{values-get_all}
use Rattle.http_rules.proofs.fields.values_of.Goals as goal

pub returns : goal.returns
returns c =
    rw c.get_all.ensures.value (rw c.requires (values-get_all c.args.name.now c.args.head.now c.keys_len-names.ensures.valid.unique))
