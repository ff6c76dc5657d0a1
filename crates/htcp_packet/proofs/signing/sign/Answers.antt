use Rattle.std.proofs.Common.{length, Err, refl, arith}
use Rattle.wire_octets.specs.declared.encode_fault.EncodeFault.TheVariants.{TooLong}
use Rattle.htcp_packet.specs.View.{shown}
use Rattle.htcp_packet.specs.Writing.{body_text}
use Rattle.htcp_packet.specs.Signing.{sealed}
use Rattle.htcp_packet.proofs.Lengths.{length-signed}
use Rattle.htcp_packet.proofs.Written.{spelled_from_written, holds_sealed}
use Rattle.htcp_packet.proofs.Judged.{good_as_made}
use Rattle.htcp_packet.proofs.Limits.{over, within, refused_over, refused_within, written_within}
use Rattle.htcp_packet.proofs.signing.sign.Goals as goal

pub returns-then-saturating_add-clause-too_long : goal.returns-then-saturating_add-clause-too_long
returns-then-saturating_add-clause-too_long c =
    let m = shown c.args.view.now in
    refused_over (Err TooLong) _ refl (over (length (body_text m.body)) (length c.args.name.now) c.saturating_add.result _ (omega arith) (length-signed m c.args.ends.now c.args.name.now c.args.secret.now c.args.seconds) c.if-saturating_add.true)

pub returns-in_err-signed_message-clause-too_long : goal.returns-in_err-signed_message-clause-too_long
returns-in_err-signed_message-clause-too_long c =
    let m = shown c.args.view.now in
    refused_within c.from_residual.result _ c.from_residual.ensures.1 (within (length (body_text m.body)) (length c.args.name.now) c.saturating_add.result _ (omega arith) (length-signed m c.args.ends.now c.args.name.now c.args.secret.now c.args.seconds) c.if-saturating_add.false)

pub returns-clause-spelled : goal.returns-clause-spelled
returns-clause-spelled c =
    let can = c.requires in
    let m = shown c.args.view.now in
    let short = within (length (body_text m.body)) (length c.args.name.now) c.saturating_add.result _ (omega arith) (length-signed m c.args.ends.now c.args.name.now c.args.secret.now c.args.seconds) c.if-saturating_add.false in
    spelled_from_written (sealed m c.args.ends.now c.args.name.now c.args.secret.now c.args.seconds) c.in_ok-signed_message.field-0.items (record { opcode = can.opcode; response = can.response; body = can.body }) c.is_in_range.ensures
    (holds_sealed m c.args.ends.now c.args.name.now c.args.secret.now c.args.seconds (omega arith) (omega arith)) short c.in_ok-signed_message.ensures

pub returns-clause-too_long : goal.returns-clause-too_long
returns-clause-too_long c =
    let m = shown c.args.view.now in
    written_within c.in_ok-signed_message.field-0 _ (within (length (body_text m.body)) (length c.args.name.now) c.saturating_add.result _ (omega arith) (length-signed m c.args.ends.now c.args.name.now c.args.secret.now c.args.seconds) c.if-saturating_add.false)

pub returns-clause-good : goal.returns-clause-good
returns-clause-good c raw n read =
    good_as_made (shown c.args.view.now) c.args.ends.now c.args.name.now c.args.secret.now c.args.seconds c.in_ok-signed_message.field-0.items raw n (returns-clause-spelled c) read
