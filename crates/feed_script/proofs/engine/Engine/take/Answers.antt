use Rattle.std.proofs.Common.{◌≡◌, ℕ, List, [], ◌∷◌, arith, subst, sym, ap, ◌∙◌, take, length}
use Rattle.std.proofs.Math.Seq.{take-length}
use Rattle.std.proofs.lemmas.Result.{err_from_is_err_and}
use Rattle.feed_script.specs.Ahead.{StopsBy, Takes}
use Rattle.feed_script.proofs.EngineLemmas.{stops-at, takes-next, front-stops, front-takes}
use Rattle.feed_script.proofs.engine.Engine.take.Goals as goal
use Rattle.feed_script.proofs.engine.Engine.take.Goals.{then-c-eq10+in_ok-break_line, else-c-eq10+in_ok-extend_line}

pub loop-c-preserved : goal.loop-c-preserved
loop-c-preserved c =
    let before = c.loop-c.invariant in
    elim c.if-c-eq10.branch [
      | then-c-eq10+in_ok-break_line w ↦
          (let P : ℕ → Type 0 = λ o. Takes c.loop-c.self (o ∷ []) c.loop-c.out.items w.break_line.new.self w.break_line.new.out.items in
          rw (w.self-is, w.out-is) (
            omega (arith, before.0, w.in_ok-break_line.ensures.number),
            takes-next c.args.self.now c.loop-c.self w.break_line.new.self c.args.piece.now c.loop-c.c-index c.args.out.now.items c.loop-c.out.items w.break_line.new.out.items (omega arith) before.1
                (subst P (sym w.if-c-eq10.true) w.in_ok-break_line.ensures.ok),
          ))
      | else-c-eq10+in_ok-extend_line w ↦
          (rw (w.self-is, w.out-is) (
            omega (arith, before.0, w.in_ok-extend_line.ensures.number),
            takes-next c.args.self.now c.loop-c.self w.extend_line.new.self c.args.piece.now c.loop-c.c-index c.args.out.now.items c.loop-c.out.items c.loop-c.out.items (omega arith) before.1
                w.in_ok-extend_line.ensures.ok,
          ))
    ]

pub returns-in_err-break_line-clause-stop : goal.returns-in_err-break_line-clause-stop
returns-in_err-break_line-clause-stop c =
    let p = err_from_is_err_and c.from_residual.result c.from_residual.ensures.1 in
    let s = c.in_err-break_line.field-0.0 in
    let P : ℕ → Type 0 = λ o. StopsBy c.loop-c.self (o ∷ []) c.loop-c.out.items c.break_line.new.out.items s in
    rw (p.1, p.2) (stops-at c.args.self.now c.loop-c.self c.args.piece.now c.loop-c.c-index _ _ _ s (omega arith) c.loop-c.invariant.1 (subst P (sym c.if-c-eq10.true) c.in_err-break_line.ensures.stop))

pub returns-in_err-extend_line-clause-stop : goal.returns-in_err-extend_line-clause-stop
returns-in_err-extend_line-clause-stop c =
    let p = err_from_is_err_and c.from_residual-in_err-extend_line.result c.from_residual-in_err-extend_line.ensures.1 in
    let s = c.in_err-extend_line.field-0.0 in
    rw (p.1, p.2) (stops-at c.args.self.now c.loop-c.self c.args.piece.now c.loop-c.c-index _ _ _ s (omega arith) c.loop-c.invariant.1 c.in_err-extend_line.ensures.stop)

pub returns-in_err-break_line-clause-front : goal.returns-in_err-break_line-clause-front
returns-in_err-break_line-clause-front c =
    let s = c.in_err-break_line.field-0.0 in
    let P : ℕ → Type 0 = λ o. StopsBy c.loop-c.self (o ∷ []) c.loop-c.out.items c.break_line.new.out.items s in
    front-stops c.args.self.now c.args.piece.now c.args.out.now.items c.break_line.new.out.items s (stops-at c.args.self.now c.loop-c.self c.args.piece.now c.loop-c.c-index c.args.out.now.items c.loop-c.out.items c.break_line.new.out.items s (omega arith) c.loop-c.invariant.1 (subst P (sym c.if-c-eq10.true) c.in_err-break_line.ensures.stop))

pub returns-in_err-extend_line-clause-front : goal.returns-in_err-extend_line-clause-front
returns-in_err-extend_line-clause-front c =
    let s = c.in_err-extend_line.field-0.0 in
    front-stops c.args.self.now c.args.piece.now c.args.out.now.items c.loop-c.out.items s (stops-at c.args.self.now c.loop-c.self c.args.piece.now c.loop-c.c-index c.args.out.now.items c.loop-c.out.items c.loop-c.out.items s (omega arith) c.loop-c.invariant.1 c.in_err-extend_line.ensures.stop)

pub returns-clause-front : goal.returns-clause-front
returns-clause-front c =
    let all : c.loop-c.c-index ≡ length c.args.piece.now = omega arith in
    let whole = ap (λ n. take n c.args.piece.now) all ∙ take-length c.args.piece.now in
    let P : List ℕ → Type 0 = λ t. Takes c.args.self.now t c.args.out.now.items c.loop-c.self c.loop-c.out.items in
    front-takes c.args.self.now c.loop-c.self c.args.piece.now c.args.out.now.items c.loop-c.out.items (subst P whole c.loop-c.invariant.1)
