use Rattle.std.proofs.Common.{arith, sym}
use Rattle.std.proofs.lemmas.List.{take_all, length-take}
use Rattle.access_log.proofs.parts.front.Goals as goal

pub slice_bounds-result-end : goal.slice_bounds-result-end
slice_bounds-result-end c = omega (arith, length-take 8192 c.args.text.now)

pub returns-then-text-le-MOST_OCTETS : goal.returns-then-text-le-MOST_OCTETS
returns-then-text-le-MOST_OCTETS c = sym (take_all 8192 c.args.text.now c.if-text-le-MOST_OCTETS.true)
