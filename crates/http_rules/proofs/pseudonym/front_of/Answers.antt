use Rattle.std.proofs.Common.{sym, arith}
use Rattle.std.proofs.lemmas.List.{length-take-le, take_all}
use Rattle.http_rules.proofs.pseudonym.front_of.Goals as goal

pub slice_bounds-result-end : goal.slice_bounds-result-end
slice_bounds-result-end c = sym (length-take-le 64 c.args.name.now (omega arith))

pub returns-then-name-le-MOST_OCTETS : goal.returns-then-name-le-MOST_OCTETS
returns-then-name-le-MOST_OCTETS c = sym (take_all 64 c.args.name.now (omega arith))
