use Rattle.std.proofs.Common.{◌≡◌, ◌<◌, refl, sym, arith, rules, None, get_or}
use Rattle.filter_slots.specs.Senders.{bucket_of}
use Rattle.filter_slots.proofs.Chains.{empty-bucket}
use Rattle.filter_slots.proofs.senders.Senders.has_none.Goals as goal

pub returns-in-None : goal.returns-in-None
returns-in-None c = λ yes socket n at.
    let within : bucket_of c.args.end < 256 = rw c.bucket.ensures.bucket at c.bucket.ensures.within in
    let none : get_or c.self.inside.last (bucket_of c.args.end) None ≡ None = rw c.bucket.ensures.bucket at c.in-None.is in
    empty-bucket c.self.inside.all.items c.self.inside.last (socket, c.args.end) (get_or c.self.inside.last (bucket_of c.args.end) None) c.self.invariant within refl none n (rw (sym c.self.view_is) at at)
