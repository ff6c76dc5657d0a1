use Rattle.std.proofs.Common.{ap, ◌∙◌}
use Rattle.object_store.proofs.SumLemmas.{put-summed}
use Rattle.object_store.proofs.store.Store.put.Goals as goal

pub invariant_of-self-in-Ok : goal.invariant_of-self-in-Ok
invariant_of-self-in-Ok c =
    put-summed c.self.inside.most_entries c.self.inside.most_octets c.evict-self-inside.result c.put_pair.new.pairs.cap c.put_pair.new.pairs.entries c.evict-self-inside.new.pairs
    c.self.invariant.limits (ap (λ p. p.cap) c.in-Ok.ensures.pairs ∙ c.self.invariant.boundless) c.evict-self-inside.ensures.pairs c.evict-self-inside.ensures.sum
