use Rattle.http_rules.proofs.HostFields.{spelled_at}
use Rattle.http_rules.proofs.host_field.is_bracketed_host.Goals as goal

pub returns-else-is_six_text-clause-whole : goal.returns-else-is_six_text-clause-whole
returns-else-is_six_text-clause-whole c = λ b.
    c.is_six_text.ensures.whole b.address (spelled_at c.args.rest.now c.place_of-end.result c.place_of-end.ensures.value b)
