-- Octets that encode a message have no fault; other octets have a first fault.
use Rattle.std.proofs.Common.{◌≡◌, ℕ, ◌<◌, ◌^◌, List, length, drop, Option, Some, None, Result, Ok, Err, refl, sym, ap, subst, ◌∙◌, inl, inr, arith}
use Rattle.std.specs.Prelude.{MatchResult, IsOkAnd}
use Rattle.std.proofs.lemmas.List.{length-drop}
use Rattle.icp_packet.specs.declared.message.Opcode.{Opcode}
use Rattle.icp_packet.specs.declared.message.IcpView.{IcpView}
use Rattle.icp_packet.specs.declared.fault.IcpFault.{IcpFault}
use Rattle.icp_packet.specs.declared.fault.IcpFault.TheVariants as faults
use Rattle.icp_packet.specs.Message.{Message, payload, Spells}
use Rattle.icp_packet.specs.Fault.{HasUrlFault, HasObjectFault, HasFault, place, IsFaultOf}
use Rattle.icp_packet.specs.Parts.{HasBodyFault, IsHeader}
use Rattle.icp_packet.specs.View.{shown}
use Rattle.icp_packet.specs.Reading.{message_of}
use Rattle.icp_packet.proofs.MessageOf.{one_opcode, one_message, message_of-is, is_spelled}
use Rattle.icp_packet.proofs.Texts.{url_before_object, no_url_fault, no_object_fault}
use Rattle.icp_packet.proofs.Headers.{header_is, fields_are}

pub no_fault : (octets : List ℕ) (m : Message) → Spells octets m → (fault : IcpFault) → HasFault fault octets → ⊥
no_fault octets m s faults.Short bad = omega (arith, (header_is octets m s).whole)
no_fault octets m s faults.Version bad = bad (header_is octets m s).version
no_fault octets m s faults.Opcode bad = bad m.op (header_is octets m s).opcode
no_fault octets m s faults.Length (inl bad) = bad (header_is octets m s).len
no_fault octets m s faults.Length (inr over) = omega (arith, s.within)
no_fault octets m s faults.Url bad =
    let op-is = one_opcode bad.0 m.op (sym bad.1 ∙ (header_is octets m s).opcode) in
    let same = (fields_are octets m s).payload_is in
    no_url_fault m.op m.body s.message.body (subst (HasUrlFault m.op) same (subst (λ (o : Opcode). HasUrlFault o (drop 20 octets)) op-is bad.2))
no_fault octets m s faults.Object bad =
    let op-is = one_opcode bad.0 m.op (sym bad.1 ∙ (header_is octets m s).opcode) in
    let same = (fields_are octets m s).payload_is in
    let small : length (payload m.body) < 2 ^ 16 = omega (arith, s.within, ap length same, length-drop 20 octets) in
    no_object_fault m.op m.body s.message.body small (subst (HasObjectFault m.op) same (subst (λ (o : Opcode). HasObjectFault o (drop 20 octets)) op-is bad.2))

-- a decoder that returns a message or a fault returns the message if the octets encode one
pub read_again : (octets : List ℕ) (r : Result IcpView IcpFault) → MatchResult r (λ view. Spells octets (shown view)) (λ fault. IsFaultOf octets fault) → (m : Message) → Spells octets m → IsOkAnd r (λ view. shown view ≡ m)
read_again octets (Ok view) h m s = one_message octets (shown view) m h s
read_again octets (Err fault) h m s = absurd (no_fault octets m s fault h.holds)

none_at : (o : Option Message) → ((m : Message) → o ≡ Some m → ⊥) → o ≡ None
none_at None h = refl
none_at (Some m) h = absurd (h m refl)

-- and then agrees with the decoding function
pub reads_same : (octets : List ℕ) (r : Result IcpView IcpFault) → MatchResult r (λ view. Spells octets (shown view)) (λ fault. IsFaultOf octets fault) → MatchResult r (λ view. message_of octets ≡ Some (shown view)) (λ _. message_of octets ≡ None)
reads_same octets (Ok view) h = message_of-is octets (shown view) h
reads_same octets (Err fault) h = none_at (message_of octets) (λ m e. no_fault octets m (is_spelled octets m e) fault h.holds)

-- a valid header has none of the first four faults
no_header_fault : (octets : List ℕ) (op : Opcode) → IsHeader octets op → (fault : IcpFault) → place fault < 5 → HasFault fault octets → ⊥
no_header_fault octets op h faults.Short lt bad = omega (arith, h.whole)
no_header_fault octets op h faults.Version lt bad = bad h.version
no_header_fault octets op h faults.Opcode lt bad = bad op h.opcode
no_header_fault octets op h faults.Length lt (inl bad) = bad h.len
no_header_fault octets op h faults.Length lt (inr over) = omega (arith, h.within)
no_header_fault octets op h faults.Url lt bad = omega arith
no_header_fault octets op h faults.Object lt bad = omega arith

no_fault_before_object : (octets : List ℕ) (op : Opcode) → IsHeader octets op → HasObjectFault op (drop 20 octets) → (fault : IcpFault) → place fault < 6 → HasFault fault octets → ⊥
no_fault_before_object octets op h object faults.Short lt bad = omega (arith, h.whole)
no_fault_before_object octets op h object faults.Version lt bad = bad h.version
no_fault_before_object octets op h object faults.Opcode lt bad = bad op h.opcode
no_fault_before_object octets op h object faults.Length lt (inl bad) = bad h.len
no_fault_before_object octets op h object faults.Length lt (inr over) = omega (arith, h.within)
no_fault_before_object octets op h object faults.Url lt bad =
    let op-is = one_opcode bad.0 op (sym bad.1 ∙ h.opcode) in
    url_before_object op (drop 20 octets) object (subst (λ (o : Opcode). HasUrlFault o (drop 20 octets)) op-is bad.2)
no_fault_before_object octets op h object faults.Object lt bad = omega arith

pub body_fault : (octets : List ℕ) (op : Opcode) (fault : IcpFault) → IsHeader octets op → HasBodyFault fault op (drop 20 octets) → IsFaultOf octets fault
body_fault octets op faults.Url h bad = record { holds = (op, h.opcode, bad); first = no_header_fault octets op h }
body_fault octets op faults.Object h bad = record { holds = (op, h.opcode, bad); first = no_fault_before_object octets op h bad }
body_fault octets op fault h bad = absurd bad
