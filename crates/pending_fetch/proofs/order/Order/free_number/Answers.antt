use Rattle.std.proofs.Common.{ℕ, ◌+◌, ◌%◌, length, arith, ap, sym, ◌∙◌}
use Rattle.pending_fetch.specs.Numbers.{is_taken}
use Rattle.pending_fetch.proofs.Runs.{next_nth}
use Rattle.pending_fetch.proofs.Nexts.{free_more}
use Rattle.pending_fetch.proofs.order.Order.free_number.Goals as goal

pub loop-tried-preserved : goal.loop-tried-preserved
loop-tried-preserved c = record {
  place = c.after-n-in-loop-tried.ensures ∙ ap (λ n. n % 4294967295 + 1) c.loop-tried.invariant.place ∙ next_nth c.args.last c.loop-tried.tried;
  rest = free_more c.args.self.now c.args.last c.loop-tried.tried (length c.args.self.now) (omega (arith, c.len-tried-end.ensures, c.loop-tried-test.true))
      (sym (ap (is_taken c.args.self.now) c.loop-tried.invariant.place) ∙ sym c.has.ensures ∙ c.if-not-has.false)
      ∙ c.loop-tried.invariant.rest;
}
