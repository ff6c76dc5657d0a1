use Rattle.std.proofs.Common.{refl, sym, ◌∙◌, arith, rules}
use Rattle.filter_slots.proofs.Chains.{chained-push}
use Rattle.filter_slots.proofs.senders.Senders.push.Goals as goal

pub invariant_of-self : goal.invariant_of-self
invariant_of-self c =
    chained-push c.self.inside.all.items c.push.new.self.items c.args.self.now c.self.inside.last _ c.bucket-bucket.result c.len-n.result
    c.push.ensures.items (sym c.self.view_is) c.bucket-bucket.ensures.bucket (search rules) c.bucket-bucket.ensures.within refl c.len-n.ensures.value
    c.requires.room c.requires.absent c.self.invariant
