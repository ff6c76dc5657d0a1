use Rattle.std.proofs.Common.{refl}
use Rattle.peer_select.specs.declared.reply.Kind.TheVariants.{Hit}
use Rattle.plain_node.specs.PlainNode.{at_clock}
use Rattle.plain_node.proofs.RoundLemmas.{running_first, running_more, running_last, expired_now, fewer_due, room_left}
use Rattle.plain_node.proofs.core_node.Core.timer.Goals as goal

pub loop-number-init : goal.loop-number-init
loop-number-init c = running_first (at_clock c.args.self.now c.args.now) c.tick.new.self c.args.out.now c.tick.ensures c.requires c.legal.ensures

pub expire-requires : goal.expire-requires
expire-requires c = record {
  room = room_left (at_clock c.args.self.now c.args.now) c.loop-number.self c.loop-number.out c.in-Some.number
      (c.waits_law.ensures.count c.loop-number.self.fetches.list c.in-Some.number c.legal-in-Some.ensures) c.loop-number.invariant;
}

pub loop-number-smaller : goal.loop-number-smaller
loop-number-smaller c =
    let w = c.first_due.ensures.first c.in-Some.number c.in-Some.is in
    fewer_due c.loop-number.self c.expire.new.self c.in-Some.number _
    (expired_now c.loop-number.self c.expire.new.self c.in-Some.number w c.unchanged_law.ensures.expired
    (c.waits_law.ensures.kept c.loop-number.self.fetches.list c.in-Some.number (record { s = 0; n = 0; kind = Hit })).1
    (c.waits_law.ensures.count c.loop-number.self.fetches.list c.in-Some.number c.legal-in-Some.ensures)
    (c.expire.ensures.plain w.fetch w.found))

pub loop-number-preserved : goal.loop-number-preserved
loop-number-preserved c =
    let w = c.first_due.ensures.first c.in-Some.number c.in-Some.is in
    running_more (at_clock c.args.self.now c.args.now) c.loop-number.self c.expire.new.self c.loop-number.out c.expire.new.out _ c.in-Some.number w.fetch w.found
    (c.expire.ensures.plain w.fetch w.found) refl (c.expire.ensures.actions w.fetch w.found)
    (expired_now c.loop-number.self c.expire.new.self c.in-Some.number w c.unchanged_law.ensures.expired
    (c.waits_law.ensures.kept c.loop-number.self.fetches.list c.in-Some.number (record { s = 0; n = 0; kind = Hit })).1
    (c.waits_law.ensures.count c.loop-number.self.fetches.list c.in-Some.number c.legal-in-Some.ensures)
    (c.expire.ensures.plain w.fetch w.found))
    c.loop-number.invariant

pub returns-clause-plain : goal.returns-clause-plain
returns-clause-plain c = (running_last (at_clock c.args.self.now c.args.now) c.loop-number.self c.loop-number.out (c.first_due.ensures.none c.in_default.is) c.loop-number.invariant).0

pub returns-clause-actions : goal.returns-clause-actions
returns-clause-actions c = (running_last (at_clock c.args.self.now c.args.now) c.loop-number.self c.loop-number.out (c.first_due.ensures.none c.in_default.is) c.loop-number.invariant).1
