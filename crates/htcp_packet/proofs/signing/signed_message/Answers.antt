use Rattle.std.proofs.Common.{◌++◌, drop, ap, ◌∙◌, arith}
use Rattle.htcp_packet.specs.Message.{signed, Seal}
use Rattle.htcp_packet.specs.View.{shown}
use Rattle.htcp_packet.specs.Writing.{auth_text}
use Rattle.htcp_packet.specs.Signing.{seal_for}
use Rattle.htcp_packet.proofs.Lengths.{length-sealed}
use Rattle.htcp_packet.proofs.Written.{message_put, seal_made}
use Rattle.htcp_packet.proofs.signing.signed_message.Goals as goal

pub returns : goal.returns
returns c =
    let m = shown c.args.view.now in
    let raw-is = c.split_at.ensures.back ∙ ap (drop 4) (c.deref.ensures.value ∙ c.in_ok-out.ensures) in
    let same = seal_made m c.args.ends.now c.args.name.now c.args.secret.now c.args.seconds c.saturating_add-expire.result c.split_at.result.1.now c.signature_of-code.result c.saturating_add-expire.ensures raw-is c.signature_of-code.ensures in
    message_put m (signed (seal_for m c.args.ends.now c.args.name.now c.args.secret.now c.args.seconds)) c.in_ok-out.out.items c.put_seal.new.out.items _ c.in_ok-out.ensures
    (c.in_ok-put_seal.ensures ∙ ap (λ (s : Seal). c.in_ok-out.out.items ++ auth_text (signed s)) same)
    (omega (arith, c.requires.len, length-sealed m c.args.ends.now c.args.name.now c.args.secret.now c.args.seconds))
