-- The decoding function agrees with the fields, the grammar and the faults.
use Rattle.std.proofs.Common.{◌≡◌, ℕ, Bool, true, false, cond, List, length, drop, Option, Some, None, Result, Ok, Err, refl, sym, ap, subst, ◌∙◌}
use Rattle.std.specs.Prelude.{◌↔◌, slice_index, MatchResult}
use Rattle.std.proofs.lemmas.Bool.{eq-eqb, eqb-true, leb-true, le-leb}
use Rattle.byteorder.specs.Endian.{big_number}
use Rattle.wire_octets.specs.Octets.{IsOctets}
use Rattle.htcp_packet.specs.declared.message.HtcpView.{HtcpView}
use Rattle.htcp_packet.specs.declared.fault.HtcpFault.{HtcpFault}
use Rattle.htcp_packet.specs.Message.{Message, Body, Auth, Spells}
use Rattle.htcp_packet.specs.View.{shown, received}
use Rattle.htcp_packet.specs.Reading.{◌>>=◌, body_at, auth_at, data_octets, auth_octets, form_at, has_header, message_with, Received, message_of}
use Rattle.htcp_packet.specs.Equals.{and_both}
use Rattle.htcp_packet.specs.Fields.{IsHeader, ReadsAs}
use Rattle.htcp_packet.proofs.Texts.{some_is, bind_some}
use Rattle.htcp_packet.proofs.Whole.{same_message, no_fault, spelled_from_reads, reads_from_spelled, Answers}

-- a test that held
kept : {A : Type 0} (b : Bool) (x : Option A) (y : A) → cond b x None ≡ Some y → (b ≡ true) × (x ≡ Some y)
kept true x y e = (refl, e)
kept false x y e = absurd cc

header_from_test : (o : List ℕ) → has_header o ≡ true → IsHeader o
header_from_test o h =
    let a = and_both _ _ h in
    let b = and_both _ _ a.0 in
    let c = and_both _ _ b.0 in
    let d = and_both _ _ c.0 in
    record {
      whole = leb-true _ _ d.0;
      len = eqb-true _ _ d.1;
      major = eqb-true _ _ c.1;
      data_low = leb-true _ _ b.1;
      data_high = leb-true _ _ a.1;
    }

test_from_header : (o : List ℕ) → IsHeader o → has_header o ≡ true
test_from_header o h =
    rw (le-leb 4 (length o) h.whole, eq-eqb (big_number 2 o) (length o) h.len, eq-eqb (slice_index o 2) 0 h.major, le-leb 8 (big_number 2 (drop 4 o)) h.data_low, le-leb (big_number 2 (drop 4 o)) (length (drop 4 o)) h.data_high) refl

-- the last step of the function
abbrev made : List ℕ → Body → Auth → Received
made o body auth = record { message = message_with o (data_octets o) body auth; raw = data_octets o }

reads_from_message : (o : List ℕ) (r : Received) → message_of o ≡ Some r → ReadsAs o r.message × (r.raw ≡ data_octets o)
unfolding message_of
reads_from_message o r e =
    let test = kept (has_header o) _ r e in
    let body = bind_some (body_at (form_at (data_octets o)) (drop 8 (data_octets o))) (λ b. auth_at (auth_octets o) >>= λ a. Some (made o b a)) r test.1 in
    let auth = bind_some (auth_at (auth_octets o)) (λ a. Some (made o body.0 a)) r body.2 in
    let fields : ReadsAs o (made o body.0 auth.0).message × ((made o body.0 auth.0).raw ≡ data_octets o) =
    (record { header = header_from_test o test.0; minor = refl; opcode = refl; response = refl; f1 = refl; rr = refl; trans = refl; body = body.1; auth = auth.1 }, refl) in
    subst (λ (x : Received). ReadsAs o x.message × (x.raw ≡ data_octets o)) (some_is (made o body.0 auth.0) r auth.2) fields

message_from_reads : (o : List ℕ) (m : Message) → ReadsAs o m → message_of o ≡ Some (record { message = m; raw = data_octets o })
unfolding message_of
message_from_reads o m h =
    let same : message_with o (data_octets o) m.body m.auth ≡ m = same_message (message_with o (data_octets o) m.body m.auth) m (sym h.minor) (sym h.opcode) (sym h.response) (sym h.f1) (sym h.rr) (sym h.trans) refl refl in
    rw (test_from_header o h.header, h.body, h.auth) (ap (λ (x : Message). Some (record { message = x; raw = data_octets o })) same)

none_from_not_some : {A : Type 0} (x : Option A) → ((y : A) → x ≡ Some y → ⊥) → x ≡ None
none_from_not_some (Some y) h = absurd (h y refl)
none_from_not_some None h = refl

pub agreed : (o : List ℕ) (raw : List ℕ) (m : Message) → IsOctets o → (message_of o ≡ Some (record { message = m; raw = raw })) ↔ Spells o raw m
agreed o raw m fits = (spelled, read)
  where
    spelled : message_of o ≡ Some (record { message = m; raw = raw }) → Spells o raw m
    spelled e =
        let h = reads_from_message o (record { message = m; raw = raw }) e in
        subst (λ (x : List ℕ). Spells o x m) (sym h.1) (spelled_from_reads o m fits h.0)

    read : Spells o raw m → message_of o ≡ Some (record { message = m; raw = raw })
    read s =
        let h = reads_from_spelled o raw m s in
        message_from_reads o m h.0 ∙ ap (λ (x : List ℕ). Some (record { message = m; raw = x })) h.1

pub value_agreed : (o : List ℕ) (r : Result HtcpView HtcpFault) → IsOctets o → Answers o r → MatchResult r (λ view. message_of o ≡ Some (received view)) (λ fault. message_of o ≡ None)
value_agreed o (Ok view) fits h = message_from_reads o (shown view) h.0 ∙ ap (λ (x : List ℕ). Some (record { message = shown view; raw = x })) (sym h.1)
value_agreed o (Err fault) fits h =
    none_from_not_some (message_of o) (λ r e. no_fault o r.message fits (reads_from_message o r e).0 fault h.holds)
