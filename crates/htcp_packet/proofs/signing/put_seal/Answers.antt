use Rattle.std.proofs.Common.{refl, arith}
use Rattle.htcp_packet.proofs.Written.{seal_put, seal_with}
use Rattle.htcp_packet.proofs.signing.put_seal.Goals as goal

pub returns : goal.returns
returns c =
    seal_put c.args.out.now.items (seal_with c.args.times.0 c.args.times.1 c.args.name.now c.args.code) _ _ _ _ _ _ (omega arith) refl
    c.in_ok-put_u16.ensures.appended c.in_ok-put_u32.ensures.appended c.in_ok-put_u32-2.ensures.appended c.in_ok-put_countstr.ensures c.in_ok-put_countstr-2.ensures
