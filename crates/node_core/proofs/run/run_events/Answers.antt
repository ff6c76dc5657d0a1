use Rattle.std.proofs.Common.{◌+◌, length, ap, ◌∙◌, arith, rules}
use Rattle.std.proofs.lemmas.List.{length_push}
use Rattle.node_core.proofs.Runs.{HasTaken-none, HasTaken-more, accepted-more}
use Rattle.node_core.proofs.run.run_events.Goals as goal

pub loop-i-init : goal.loop-i-init
loop-i-init c = record {
  taken = HasTaken-none c.args.node.now c.in-Ok.outs.items c.in-Ok.ensures.items;
  accepted = tt;
  room = search rules;
  count = search rules;
}

pub loop-i-preserved : goal.loop-i-preserved
loop-i-preserved c =
    let pushed = rw c.unwrap.ensures at c.push.ensures.items in
    record {
      taken = HasTaken-more c.args.node.now c.loop-i.node c.step.new.self c.args.events.now c.index-events-i.result c.loop-i.i c.loop-i.outs.items c.push.new.self.items c.step.new.out (omega arith) c.index-events-i.is pushed c.loop-i.invariant.taken c.in-Ok-step.ensures.taken;
      accepted = accepted-more c.args.events.now c.index-events-i.result c.loop-i.i (omega arith) c.index-events-i.is c.loop-i.invariant.accepted c.step.ensures.accepted;
      room = omega (arith, c.push.ensures.capacity);
      count = ap length pushed ∙ length_push c.loop-i.outs.items c.step.new.out ∙ ap (λ n. n + 1) c.loop-i.invariant.count;
    }
