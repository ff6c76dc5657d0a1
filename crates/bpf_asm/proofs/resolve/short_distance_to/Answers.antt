use Rattle.std.proofs.Common.{◌+◌, refl, arith}
use Rattle.std.proofs.lemmas.Result.{err_from_is_err_and}
use Rattle.bpf_asm.proofs.resolve.short_distance_to.Goals as goal

pub returns-in_err-distance : goal.returns-in_err-distance
returns-in_err-distance c = λ operation b.
    let p = err_from_is_err_and c.from_residual.result c.from_residual.ensures.1 in
    rw (p.1, p.2) (c.in_err-distance.ensures operation)

pub returns-in-Ok : goal.returns-in-Ok
returns-in-Ok c = λ operation b. let e = c.in_ok-distance.ensures operation in let f = c.in-Ok.ensures in rw f.1 e

pub returns-in-Err : goal.returns-in-Err
returns-in-Err c = λ operation b. let e = c.in_ok-distance.ensures operation in let f = c.in-Err.ensures in (refl, b, (c.args.place + 1 + c.in_ok-distance.distance, e, omega arith))
