-- Lengths of encoded messages.
use Rattle.std.proofs.Common.{◌≡◌, ℕ, ◌+◌, List, [], ◌∷◌, length, length-append, arith}
use Rattle.hmac_md5.proofs.Lengths.{length-hmac}
use Rattle.htcp_packet.specs.Message.{Message, signed, countstr}
use Rattle.htcp_packet.specs.Writing.{body_text, data_text, auth_text, message_text, without_auth}
use Rattle.htcp_packet.specs.Signing.{covered, expiry, seal_for, sealed}

-- the length of an unsigned message
pub length-unsigned : (m : Message) → length (message_text (without_auth m)) ≡ length (body_text m.body) + 14
length-unsigned m = omega (arith, length-append (body_text m.body) (0 ∷ 2 ∷ []))

-- the length of a signed AUTH
pub length-sealed : (m : Message) (ends name secret : List ℕ) (seconds : ℕ) → length (auth_text (signed (seal_for m ends name secret seconds))) ≡ length name + 30
length-sealed m ends name secret seconds =
    let s = seal_for m ends name secret seconds in
    omega (arith, length-hmac secret (covered ends m.minor seconds (expiry seconds) (data_text m) name), length-append name (countstr s.signature))

-- the length of a signed message
pub length-signed : (m : Message) (ends name secret : List ℕ) (seconds : ℕ) → length (message_text (sealed m ends name secret seconds)) ≡ length (body_text m.body) + length name + 42
length-signed m ends name secret seconds =
    omega (arith, length-sealed m ends name secret seconds, length-append (body_text m.body) (auth_text (signed (seal_for m ends name secret seconds))))
