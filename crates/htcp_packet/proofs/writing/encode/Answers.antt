use Rattle.std.proofs.Common.{◌≤◌, [], length, refl, arith, inr}
use Rattle.htcp_packet.specs.View.{shown}
use Rattle.htcp_packet.specs.Writing.{message_text, without_auth}
use Rattle.htcp_packet.proofs.Lengths.{length-unsigned}
use Rattle.htcp_packet.proofs.Written.{spelled_from_written}
use Rattle.htcp_packet.proofs.writing.encode.Goals as goal

pub returns-clause-spelled : goal.returns-clause-spelled
returns-clause-spelled c =
    let can = c.requires in
    let short : length (message_text (without_auth (shown c.args.view.now))) ≤ 65507 = omega (arith, c.body_len-body_len.ensures, length-unsigned (shown c.args.view.now)) in
    spelled_from_written (without_auth (shown c.args.view.now)) c.in_ok-unsigned.field-0.items (record { opcode = can.opcode; response = can.response; body = can.body }) c.is_in_range.ensures (inr ([], refl)) short c.in_ok-unsigned.ensures
