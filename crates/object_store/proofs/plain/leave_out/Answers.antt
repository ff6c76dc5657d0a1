use Rattle.std.proofs.Common.{rules, not, bytes_eq}
use Rattle.std.proofs.lemmas.Fn.{filter_same}
use Rattle.object_store.proofs.plain.leave_out.Goals as goal

pub returns-clause-pairs : goal.returns-clause-pairs
returns-clause-pairs c = filter_same _ (λ pair. not (bytes_eq c.args.key.now pair.0)) _ (λ x b f' k. search rules) _ _ c.retain.ensures.filtered
