use Rattle.std.proofs.Common.{◌≡◌, Err, ap, ◌∙◌, arith}
use Rattle.htcp_packet.specs.View.{shown}
use Rattle.htcp_packet.proofs.Lengths.{length-signed}
use Rattle.plain_node.proofs.signatures.signed.Goals as goal

pub unreachable-requires : goal.unreachable-requires
unreachable-requires c =
    let long = c.sign.ensures.too_long.0 (c.in-Err-TooLong.is ∙ ap (λ fault. Err fault) c.in-Err-TooLong.field-0-is) in
    omega (arith, length-signed (shown c.args.view.now) c.args.ends.now c.args.name.now c.args.secret.now c.args.seconds, long, c.requires.short, c.requires.named)
