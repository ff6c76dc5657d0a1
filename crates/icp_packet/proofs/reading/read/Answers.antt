use Rattle.std.proofs.Common.{arith, List, ap, refl, subst, ◌∙◌, sym, ℕ}
use Rattle.std.proofs.lemmas.List.{take_rest}
use Rattle.byteorder.specs.Endian.{big_number}
use Rattle.icp_packet.specs.Parts.{HasBodyFault}
use Rattle.icp_packet.proofs.Faults.{body_fault}
use Rattle.icp_packet.proofs.Headers.{spelled_from_fields, sender_cells}
use Rattle.std.proofs.lemmas.Result.{err_from_is_err_and}
use Rattle.icp_packet.proofs.reading.read.Goals as goal

pub returns-in_err-body : goal.returns-in_err-body
returns-in_err-body c =
    let p = err_from_is_err_and c.from_residual-in_err-body.result c.from_residual-in_err-body.ensures.1 in
    rw (p.1, p.2) (body_fault c.args.datagram.now c.in_ok-op.op c.in_err-body.field-0.0 c.in_ok-op.ensures (subst (HasBodyFault c.in_err-body.field-0.0 c.in_ok-op.op) (take_rest c.args.datagram.now 20) c.in_err-body.ensures))

pub returns : goal.returns
returns c =
    let octets : List ℕ = c.args.datagram.now in
    let h = c.in_ok-op.ensures in
    let whole = h.whole in
    record {
      message = record {
        number = omega arith;
        options = omega arith;
        option_data = omega arith;
        sender = refl;
        body = c.in_ok-body.ensures.0;
      };
      spelled = spelled_from_fields octets _ (λ i. omega (arith, c.type_inv.datagram i)) h record {
        number = c.read_u32.ensures ∙ ap (big_number 4) (take_rest octets 4);
        options = c.read_u32-2.ensures ∙ ap (big_number 4) (take_rest octets 8);
        option_data = c.read_u32-3.ensures ∙ ap (big_number 4) (take_rest octets 12);
        sender = sender_cells octets whole;
        payload_is = sym (take_rest octets 20) ∙ c.in_ok-body.ensures.1;
      };
      within = h.within;
    }
