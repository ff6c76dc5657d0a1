-- The signature of a signed message verifies as good.
use Rattle.std.proofs.Common.{◌≡◌, ℕ, ◌<◌, ◌≤◌, List, length, Some, refl, sym, ap, subst, ◌∙◌, arith}
use Rattle.std.specs.Prelude.{◌↔◌}
use Rattle.htcp_packet.specs.Message.{Message, Spells}
use Rattle.htcp_packet.specs.Reading.{Received, message_of}
use Rattle.htcp_packet.specs.Writing.{data_text, message_text}
use Rattle.htcp_packet.specs.Signing.{IsGood, sealed, sealed_received, IsSignable}
use Rattle.htcp_packet.proofs.Lengths.{length-signed}
use Rattle.htcp_packet.proofs.Whole.{one_message}
use Rattle.htcp_packet.proofs.Agreed.{agreed}
use Rattle.htcp_packet.proofs.Written.{spelled_from_written, holds_sealed}

-- the written signature verifies as good, except at the last second
pub good_as_made : (m : Message) (ends name secret : List ℕ) (seconds : ℕ) (o raw : List ℕ) (n : Message) → Spells o (data_text m) (sealed m ends name secret seconds) → Spells o raw n → (IsGood (record { message = n; raw = raw }) ends secret seconds ↔ (seconds < 4294967295))
good_as_made m ends name secret seconds o raw n written read = (before_last, good_before_last)
  where
    made : Message → List ℕ → Received
    made x y = record { message = x; raw = y }

    same : made (sealed m ends name secret seconds) (data_text m) ≡ made n raw
    same =
        let one = one_message o (data_text m) raw (sealed m ends name secret seconds) n written read in
        ap (λ (x : Message). made x (data_text m)) one.0 ∙ ap (made n) one.1

    before_last : IsGood (made n raw) ends secret seconds → seconds < 4294967295
    before_last good =
        let seal = subst (λ (r : Received). IsGood r ends secret seconds) (sym same) good in
        omega (arith, seal.lasts)

    good_before_last : seconds < 4294967295 → IsGood (made n raw) ends secret seconds
    good_before_last lt = subst (λ (r : Received). IsGood r ends secret seconds) same (record { signature = refl; begun = omega arith; lasts = omega arith })

-- what is written of a signed message encodes it
sealed_spelled : (m : Message) (ends name secret : List ℕ) (seconds : ℕ) → IsSignable m ends name secret seconds → Spells (message_text (sealed m ends name secret seconds)) (data_text m) (sealed m ends name secret seconds)
sealed_spelled m ends name secret seconds is =
    let can = is.writable in
    let few : length name ≤ 65465 = omega (arith, is.short, length-signed m ends name secret seconds) in
    spelled_from_written (sealed m ends name secret seconds) (message_text (sealed m ends name secret seconds)) (record { opcode = can.opcode; response = can.response; body = can.body }) is.trans
    (holds_sealed m ends name secret seconds is.seconds_fit few) is.short refl

pub sealed_read : (m : Message) (ends name secret : List ℕ) (seconds : ℕ) → IsSignable m ends name secret seconds → message_of (message_text (sealed m ends name secret seconds)) ≡ Some (sealed_received m ends name secret seconds)
sealed_read m ends name secret seconds is =
    (agreed (message_text (sealed m ends name secret seconds)) (data_text m) (sealed m ends name secret seconds) is.octets).1 (sealed_spelled m ends name secret seconds is)

pub sealed_good : (m : Message) (ends name secret : List ℕ) (seconds : ℕ) → IsSignable m ends name secret seconds → IsGood (sealed_received m ends name secret seconds) ends secret seconds ↔ (seconds < 4294967295)
sealed_good m ends name secret seconds is =
    let spelled = sealed_spelled m ends name secret seconds is in
    good_as_made m ends name secret seconds (message_text (sealed m ends name secret seconds)) (data_text m) (sealed m ends name secret seconds) spelled spelled
