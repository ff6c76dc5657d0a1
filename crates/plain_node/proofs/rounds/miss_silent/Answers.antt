use Rattle.std.proofs.Common.{◌<◌, ◌+◌, length, refl, ap, ◌∙◌, arith}
use Rattle.neighbours.specs.Rows.{Rows, mark_at, missed}
use Rattle.peer_select.specs.Poll.{has_reply}
use Rattle.plain_node.proofs.RoundLemmas.{missed_more, as_many}
use Rattle.plain_node.proofs.rounds.miss_silent.Goals as goal

pub loop-n-preserved : goal.loop-n-preserved
loop-n-preserved c =
    let lt : c.loop-n.n < length c.loop-n.table.marks = omega (arith, c.loop-n-test.true, c.len-n-end.ensures, c.loop-n.invariant.marked) in
    record {
      neighbours = ap (λ (r : Rows). r.neighbours) c.miss_one.ensures ∙ c.loop-n.invariant.neighbours;
      keys = ap (λ (r : Rows). r.keys) c.miss_one.ensures ∙ c.loop-n.invariant.keys;
      marked = ap (λ (r : Rows). length r.marks) c.miss_one.ensures ∙ as_many (has_reply c.args.round.now.replies c.loop-n.n) c.loop-n.n (missed (mark_at c.loop-n.table.marks c.loop-n.n)) c.loop-n.table.marks ∙ c.loop-n.invariant.marked;
      marks = missed_more c.args.round.now.replies c.loop-n.n (c.loop-n.n + 1) c.loop-n.table.marks c.miss_one.new.table.marks lt (ap (λ (r : Rows). r.marks) c.miss_one.ensures) refl ∙ c.loop-n.invariant.marks;
    }
