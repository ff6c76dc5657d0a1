use Rattle.std.proofs.Common.{◌≡◌, ℕ, ◌+◌, ◌<◌, sym, ap, ◌∙◌, arith, rules, Some}
use Rattle.std.proofs.lemmas.Option.{slice_get-get_or}
use Rattle.filter_slots.specs.Senders.{buckets}
use Rattle.filter_slots.proofs.Chains.{walk-last, walk-later, walk-within, walk-end, walk-smaller}
use Rattle.filter_slots.proofs.senders.Senders.follow.Goals as goal

pub loop-link-smaller : goal.loop-link-smaller
loop-link-smaller c =
    let i = c.loop-link.invariant in
    walk-smaller (buckets c.self.inside.all.items) c.in-Some.place _ c.loop-link.link _ c.in-Some.is
    (walk-last c.self.inside.all.items c.as_slice.result.now c.self.inside.last i.limit c.in-Some.place _ c.loop-link.link _ c.self.invariant c.as_slice.ensures.value i.within c.in-Some.is i.last)

pub loop-link-preserved : goal.loop-link-preserved
loop-link-preserved c =
    let i = c.loop-link.invariant in
    let lt = walk-within (buckets c.self.inside.all.items) i.limit c.in-Some.place _ c.loop-link.link c.in-Some.is i.last in
    record {
      limit = c.in-Some.place;
      within = (let within = i.within in omega arith);
      later =
          walk-later c.self.inside.all.items c.as_slice.result.now i.limit c.in-Some.place (c.args.socket, c.args.end) c.loop-link.link _
          c.as_slice.ensures.value i.within c.in-Some.is i.last c.if-is.ensures.1 i.later;
      last = walk-last c.self.inside.all.items c.as_slice.result.now c.self.inside.last i.limit c.in-Some.place _ c.loop-link.link _ c.self.invariant c.as_slice.ensures.value i.within c.in-Some.is i.last;
    }

pub returns-clause-absent : goal.returns-clause-absent
returns-clause-absent c =
    let i = c.loop-link.invariant in
    λ none n at. walk-end c.self.inside.all.items i.limit (c.args.socket, c.args.end) c.loop-link.link c.in_default.is i.last i.later n (rw (sym c.self.view_is) at at)
