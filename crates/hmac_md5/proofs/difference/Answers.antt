use Rattle.std.proofs.Common.{[], ◌∷◌, length, length-append, rules}
use Rattle.std.proofs.lemmas.Slice.Zip.{zip_turn}
use Rattle.hmac_md5.proofs.Bits.{one_pair_more}
use Rattle.hmac_md5.proofs.difference.Goals as goal

pub loop-x-preserved : goal.loop-x-preserved
loop-x-preserved c =
    let turn = zip_turn c.args.a.now c.args.b.now c.loop-x.yielded c.into_iter-x-iterator.result c.loop-x.x-iterator c.next.new.self c.next.result (search rules) (search rules) c.loop-x.yielded_by (c.in-Some.x, c.in-Some.y) c.in-Some.is c.next.ensures.steps in
    one_pair_more c.args.a.now c.args.b.now (length c.loop-x.yielded) _ c.in-Some.x.now c.in-Some.y.now c.loop-x.bits turn.0 turn.1 (turn.2 0) (turn.3 0) (length-append c.loop-x.yielded ((c.in-Some.x, c.in-Some.y) ∷ [])) c.loop-x.invariant
