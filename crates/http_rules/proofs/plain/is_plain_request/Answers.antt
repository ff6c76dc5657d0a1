use Rattle.std.proofs.Common.{not, ap, sym, ◌∙◌}
use Rattle.http_rules.specs.Fields.{fields_of}
use Rattle.http_rules.proofs.PlainHeads.{plain-any, plain_published, plain_fresh, plain_whole, plain_first}
use Rattle.http_rules.proofs.plain.is_plain_request.Goals as goal

pub returns-clause-value : goal.returns-clause-value
returns-clause-value c = ap not c.has_deciding_field.ensures ∙ sym (plain-any (fields_of c.args.head.now))

pub returns-clause-published : goal.returns-clause-published
returns-clause-published c = λ t. plain_published (fields_of c.args.head.now) (sym (returns-clause-value c) ∙ t)

pub returns-clause-fresh : goal.returns-clause-fresh
returns-clause-fresh c = λ t. plain_fresh (fields_of c.args.head.now) (sym (returns-clause-value c) ∙ t)

pub returns-clause-whole : goal.returns-clause-whole
returns-clause-whole c = λ method object length t. plain_whole method (fields_of c.args.head.now) object length (sym (returns-clause-value c) ∙ t)

pub returns-clause-first : goal.returns-clause-first
returns-clause-first c = λ mark t. plain_first mark (fields_of c.args.head.now) (sym (returns-clause-value c) ∙ t)
