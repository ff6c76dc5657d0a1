-- Whole messages: decoding is sound and complete, and a reported fault is the first.
use Rattle.std.proofs.Common.{◌≡◌, ℕ, zero, suc, ◌+◌, ◌*◌, ◌/◌, ◌%◌, ◌<◌, ◌≤◌, Bool, true, false, eqb, List, ◌∷◌, ◌++◌, length, take, drop, Option, Some, None, Result, Ok, Err, refl, sym, ap, subst, ◌∙◌, arith, inl, inr}
use Rattle.std.specs.Prelude.{slice_index, MatchResult, IfOk, IsOkAnd}
use Rattle.std.proofs.lemmas.Bool.{eq-eqb, ne_eqb}
use Rattle.std.proofs.lemmas.List.{take_at, drop_at, take-append-drop, length-append, length-take, drop_more}
use Rattle.byteorder.specs.Endian.{big_bytes, big_number}
use Rattle.byteorder.specs.Numbers.{big_number-reads_back, big_from-take}
use Rattle.htcp_packet.specs.declared.message.Form.{Form}
use Rattle.htcp_packet.specs.declared.message.HtcpView.{HtcpView}
use Rattle.htcp_packet.specs.declared.fault.HtcpFault.{HtcpFault}
use Rattle.htcp_packet.specs.declared.fault.HtcpFault.TheVariants as faults
use Rattle.htcp_packet.specs.Message.{Message, Body, Auth, form_of, bit, IsData, Spells}
use Rattle.htcp_packet.specs.View.{shown}
use Rattle.htcp_packet.specs.Reading.{body_at, auth_at, data_octets, auth_octets, form_at}
use Rattle.htcp_packet.specs.Fault.{HasFault, place, IsFaultOf}
use Rattle.htcp_packet.specs.Fields.{IsHeader, ReadsAs}
use Rattle.wire_octets.specs.Octets.{IsOctets}
use Rattle.wire_octets.proofs.Fields.{IsOctets-drop, IsOctets-take, field2, field4}
use Rattle.htcp_packet.proofs.Texts.{some_is, body_takes, body_again, auth_takes, auth_again}

none_is : {A : Type 0} (x : A) → None ≡ Some x → ⊥
none_is x e = absurd cc

bit_of : (x : ℕ) → x < 2 → bit (eqb x 1) ≡ x
bit_of zero lt = refl
bit_of (suc zero) lt = refl
bit_of (suc (suc x)) lt = absurd (omega arith)

-- the flags of an octet
f1_of : (r : ℕ) (f1 rr : Bool) → eqb ((4 * r + 2 * bit f1 + bit rr) / 2 % 2) 1 ≡ f1
f1_of r true true = eq-eqb _ _ (omega arith)
f1_of r true false = eq-eqb _ _ (omega arith)
f1_of r false true = ne_eqb _ _ (λ e. omega arith)
f1_of r false false = ne_eqb _ _ (λ e. omega arith)

rr_of : (r : ℕ) (f1 rr : Bool) → eqb ((4 * r + 2 * bit f1 + bit rr) % 2) 1 ≡ rr
rr_of r true true = eq-eqb _ _ (omega arith)
rr_of r true false = ne_eqb _ _ (λ e. omega arith)
rr_of r false true = eq-eqb _ _ (omega arith)
rr_of r false false = ne_eqb _ _ (λ e. omega arith)

data_fits : (o : List ℕ) → IsOctets o → IsOctets (data_octets o)
data_fits o fits = IsOctets-take (big_number 2 (drop 4 o)) (drop 4 o) (IsOctets-drop 4 o fits)

data_length : (o : List ℕ) → IsHeader o → length (data_octets o) ≡ big_number 2 (drop 4 o)
data_length o h = omega (arith, h.data_high, length-take (big_number 2 (drop 4 o)) (drop 4 o))

-- ---- soundness: a message that is read is encoded

data_is : (o : List ℕ) (m : Message) → IsOctets o → ReadsAs o m → IsData m (data_octets o)
data_is o m fits h =
    let d = data_octets o in
    let fits_d = data_fits o fits in
    let len = data_length o h.header in
    let low = h.header.data_low in
    let size : big_number 2 d ≡ length d = big_from-take 0 2 (big_number 2 (drop 4 o)) (drop 4 o) (omega (arith, low)) ∙ sym len in
    let x = slice_index d 2 in
    let y = slice_index d 3 in
    let x-is : x ≡ 16 * m.opcode + m.response = rw (h.opcode, h.response) (omega arith) in
    let y-is : y ≡ 4 * (y / 4) + 2 * bit m.f1 + bit m.rr = rw (h.f1, h.rr, bit_of (y / 2 % 2) (omega arith), bit_of (y % 2) (omega arith)) (omega arith) in
    let e4 : drop 4 d ≡ big_bytes 4 m.trans ++ drop 8 d = field4 4 d fits_d (omega (arith, len, low)) ∙ ap (λ (n : ℕ). big_bytes 4 n ++ drop 8 d) (sym h.trans) in
    let e3 : drop 3 d ≡ (4 * (y / 4) + 2 * bit m.f1 + bit m.rr) ∷ drop 4 d = drop_more d 3 0 (omega (arith, len, low)) ∙ ap (λ (n : ℕ). n ∷ drop 4 d) y-is in
    let e2 : drop 2 d ≡ (16 * m.opcode + m.response) ∷ drop 3 d = drop_more d 2 0 (omega (arith, len, low)) ∙ ap (λ (n : ℕ). n ∷ drop 3 d) x-is in
    let e0 : d ≡ big_bytes 2 (length d) ++ drop 2 d = field2 0 d fits_d (omega (arith, len, low)) ∙ ap (λ (n : ℕ). big_bytes 2 n ++ drop 2 d) size in
    record {
      reserved = y / 4;
      op_data = drop 8 d;
      reserved_fits = omega (arith, fits_d 3);
      opcode_fits = omega (arith, fits_d 2, h.opcode);
      response_fits = omega (arith, h.response);
      trans_fits = omega (arith, h.trans, IsOctets-drop 4 d fits_d 0, IsOctets-drop 4 d fits_d 1, IsOctets-drop 4 d fits_d 2, IsOctets-drop 4 d fits_d 3);
      spelled = e0 ∙ ap (λ (r : List ℕ). big_bytes 2 (length d) ++ r) (e2 ∙ ap (λ (r : List ℕ). (16 * m.opcode + m.response) ∷ r) (e3 ∙ ap (λ (r : List ℕ). (4 * (y / 4) + 2 * bit m.f1 + bit m.rr) ∷ r) e4));
      body = body_takes (form_of m.opcode m.response m.f1 m.rr) (drop 8 d) m.body (IsOctets-drop 8 d fits_d) (rw (h.opcode, h.response, h.f1, h.rr) h.body);
    }

pub spelled_from_reads : (o : List ℕ) (m : Message) → IsOctets o → ReadsAs o m → Spells o (data_octets o) m
spelled_from_reads o m fits h =
    let le = h.header.whole in
    let a = auth_octets o in
    let e4 : drop 4 o ≡ data_octets o ++ a = sym (take-append-drop (big_number 2 (drop 4 o)) (drop 4 o)) in
    let e3 : drop 3 o ≡ m.minor ∷ drop 4 o = drop_more o 3 0 (omega arith) ∙ ap (λ (n : ℕ). n ∷ drop 4 o) (sym h.minor) in
    let e2 : drop 2 o ≡ 0 ∷ drop 3 o = drop_more o 2 0 (omega arith) ∙ ap (λ (n : ℕ). n ∷ drop 3 o) h.header.major in
    let e0 : o ≡ big_bytes 2 (length o) ++ drop 2 o = field2 0 o fits (omega arith) ∙ ap (λ (n : ℕ). big_bytes 2 n ++ drop 2 o) h.header.len in
    record {
      authentication = a;
      fits = omega (arith, h.header.len, fits 0, fits 1);
      spelled = e0 ∙ ap (λ (r : List ℕ). big_bytes 2 (length o) ++ r) (e2 ∙ ap (λ (r : List ℕ). 0 ∷ r) (e3 ∙ ap (λ (r : List ℕ). m.minor ∷ r) e4));
      contents = data_is o m fits h;
      auth = auth_takes a m.auth (IsOctets-drop (big_number 2 (drop 4 o)) (drop 4 o) (IsOctets-drop 4 o fits)) h.auth;
    }

-- ---- completeness: an encoded message is read

same_form : (a b c d : ℕ) (f g r s : Bool) → a ≡ b → c ≡ d → f ≡ g → r ≡ s → form_of a c f r ≡ form_of b d g s
same_form a b c d f g r s p q u v = rw (p, q, u, v) refl

pub reads_from_spelled : (o raw : List ℕ) (m : Message) → Spells o raw m → ReadsAs o m × (data_octets o ≡ raw)
reads_from_spelled o raw m s =
    let k = s.contents in
    let a = s.authentication in
    let tail = (16 * m.opcode + m.response) ∷ (4 * k.reserved + 2 * bit m.f1 + bit m.rr) ∷ big_bytes 4 m.trans ++ k.op_data in
    let raw_len : 8 ≤ length raw = omega (arith, ap length k.spelled) in
    let o_len : length o ≡ 4 + (length raw + length a) = omega (arith, ap length s.spelled, length-append raw a) in
    let small = s.fits in
    let o-size : big_number 2 o ≡ length o = ap (big_number 2) s.spelled ∙ big_number-reads_back 2 (length o) (0 ∷ m.minor ∷ raw ++ a) s.fits in
    let rest : drop 4 o ≡ raw ++ a = ap (drop 4) s.spelled in
    let n : big_number 2 (drop 4 o) ≡ length raw = ap (big_number 2) (rest ∙ ap (λ (x : List ℕ). x ++ a) k.spelled) ∙ big_number-reads_back 2 (length raw) (tail ++ a) (omega arith) in
    let whole : data_octets o ≡ raw = ap (λ (i : ℕ). take i (drop 4 o)) n ∙ ap (take (length raw)) rest ∙ take_at raw a (length raw) refl in
    let behind : auth_octets o ≡ a = ap (λ (i : ℕ). drop i (drop 4 o)) n ∙ ap (drop (length raw)) rest ∙ drop_at raw a (length raw) refl in
    let rest_len : length (drop 4 o) ≡ length raw + length a = ap length rest ∙ length-append raw a in
    let x-is : slice_index raw 2 ≡ 16 * m.opcode + m.response = ap (λ (x : List ℕ). slice_index x 2) k.spelled in
    let y-is : slice_index raw 3 ≡ 4 * k.reserved + 2 * bit m.f1 + bit m.rr = ap (λ (x : List ℕ). slice_index x 3) k.spelled in
    let op : slice_index raw 2 / 16 ≡ m.opcode = omega (arith, x-is, k.response_fits) in
    let resp : slice_index raw 2 % 16 ≡ m.response = omega (arith, x-is, k.response_fits) in
    let f1 : eqb (slice_index raw 3 / 2 % 2) 1 ≡ m.f1 = ap (λ (y : ℕ). eqb (y / 2 % 2) 1) y-is ∙ f1_of k.reserved m.f1 m.rr in
    let rr : eqb (slice_index raw 3 % 2) 1 ≡ m.rr = ap (λ (y : ℕ). eqb (y % 2) 1) y-is ∙ rr_of k.reserved m.f1 m.rr in
    let form : form_at raw ≡ form_of m.opcode m.response m.f1 m.rr = same_form _ _ _ _ _ _ _ _ op resp f1 rr in
    let op_data : drop 8 raw ≡ k.op_data = ap (drop 8) k.spelled in
    let body : body_at (form_at raw) (drop 8 raw) ≡ Some m.body = ap (λ (f : Form). body_at f (drop 8 raw)) form ∙ ap (body_at (form_of m.opcode m.response m.f1 m.rr)) op_data ∙ body_again (form_of m.opcode m.response m.f1 m.rr) m.body k.op_data k.body in
    let trans : big_number 4 (drop 4 raw) ≡ m.trans = ap (λ (x : List ℕ). big_number 4 (drop 4 x)) k.spelled ∙ big_number-reads_back 4 m.trans k.op_data k.trans_fits in (
      record {
        header = record {
          whole = omega arith;
          len = o-size;
          major = ap (λ (x : List ℕ). slice_index x 2) s.spelled;
          data_low = omega arith;
          data_high = omega arith;
        };
        minor = sym (ap (λ (x : List ℕ). slice_index x 3) s.spelled);
        opcode = sym (ap (λ (x : List ℕ). slice_index x 2 / 16) whole ∙ op);
        response = sym (ap (λ (x : List ℕ). slice_index x 2 % 16) whole ∙ resp);
        f1 = sym (ap (λ (x : List ℕ). eqb (slice_index x 3 / 2 % 2) 1) whole ∙ f1);
        rr = sym (ap (λ (x : List ℕ). eqb (slice_index x 3 % 2) 1) whole ∙ rr);
        trans = sym (ap (λ (x : List ℕ). big_number 4 (drop 4 x)) whole ∙ trans);
        body = ap (λ (x : List ℕ). body_at (form_at x) (drop 8 x)) whole ∙ body;
        auth = ap auth_at behind ∙ auth_again m.auth a s.auth;
      },
      whole,
    )

-- ---- uniqueness

pub same_message : (m n : Message) → m.minor ≡ n.minor → m.opcode ≡ n.opcode → m.response ≡ n.response → m.f1 ≡ n.f1 → m.rr ≡ n.rr → m.trans ≡ n.trans → m.body ≡ n.body → m.auth ≡ n.auth → m ≡ n
same_message m n minor opcode response f1 rr trans body auth =
    let made : ℕ → ℕ → ℕ → Bool → Bool → ℕ → Body → Auth → Message = λ a b c d e f g h. record { minor = a; opcode = b; response = c; f1 = d; rr = e; trans = f; body = g; auth = h } in
    let same : made m.minor m.opcode m.response m.f1 m.rr m.trans m.body m.auth ≡ made n.minor n.opcode n.response n.f1 n.rr n.trans n.body n.auth = rw (minor, opcode, response, f1, rr, trans, body, auth) refl in
    same

one_reading : (o : List ℕ) (m n : Message) → ReadsAs o m → ReadsAs o n → m ≡ n
one_reading o m n p q =
    same_message m n (p.minor ∙ sym q.minor) (p.opcode ∙ sym q.opcode) (p.response ∙ sym q.response) (p.f1 ∙ sym q.f1) (p.rr ∙ sym q.rr) (p.trans ∙ sym q.trans) (some_is m.body n.body (sym p.body ∙ q.body)) (some_is m.auth n.auth (sym p.auth ∙ q.auth))

pub one_message : (o a b : List ℕ) (m n : Message) → Spells o a m → Spells o b n → (m ≡ n) × (a ≡ b)
one_message o a b m n s t =
    let p = reads_from_spelled o a m s in
    let q = reads_from_spelled o b n t in
    (one_reading o m n p.0 q.0, sym p.1 ∙ q.1)

-- ---- faults

no_header_fault : (o : List ℕ) → IsHeader o → (fault : HtcpFault) → place fault < 5 → HasFault fault o → ⊥
no_header_fault o h faults.Short lt bad = omega (arith, h.whole)
no_header_fault o h faults.Length lt bad = bad h.len
no_header_fault o h faults.Major lt bad = bad h.major
no_header_fault o h faults.Data lt (inl bad) = omega (arith, h.data_low, h.data_high)
no_header_fault o h faults.Data lt (inr (inl bad)) = omega (arith, h.data_low)
no_header_fault o h faults.Data lt (inr (inr bad)) = omega (arith, h.data_high)
no_header_fault o h faults.Text lt bad = omega arith
no_header_fault o h faults.Auth lt bad = omega arith

abbrev pub BodyAt : List ℕ → Option Body → Type 0
BodyAt o b = body_at (form_at (data_octets o)) (drop 8 (data_octets o)) ≡ b

no_text_fault : (o : List ℕ) (b : Body) → IsOctets o → BodyAt o (Some b) → HasFault faults.Text o → ⊥
no_text_fault o b fits is bad = bad b (body_takes (form_at (data_octets o)) (drop 8 (data_octets o)) b (IsOctets-drop 8 (data_octets o) (data_fits o fits)) is)

pub text_fault : (o : List ℕ) → IsHeader o → BodyAt o None → IsFaultOf o faults.Text
text_fault o h none = record {
  holds = λ body holds. none_is body (sym none ∙ body_again (form_at (data_octets o)) body (drop 8 (data_octets o)) holds);
  first = no_header_fault o h;
}

before_auth : (o : List ℕ) (b : Body) → IsOctets o → IsHeader o → BodyAt o (Some b) → (fault : HtcpFault) → place fault < 6 → HasFault fault o → ⊥
before_auth o b fits h is faults.Short lt bad = no_header_fault o h faults.Short (omega arith) bad
before_auth o b fits h is faults.Length lt bad = no_header_fault o h faults.Length (omega arith) bad
before_auth o b fits h is faults.Major lt bad = no_header_fault o h faults.Major (omega arith) bad
before_auth o b fits h is faults.Data lt bad = no_header_fault o h faults.Data (omega arith) bad
before_auth o b fits h is faults.Text lt bad = no_text_fault o b fits is bad
before_auth o b fits h is faults.Auth lt bad = omega arith

pub auth_fault : (o : List ℕ) (b : Body) → IsOctets o → IsHeader o → BodyAt o (Some b) → auth_at (auth_octets o) ≡ None → IsFaultOf o faults.Auth
auth_fault o b fits h is none = record {
  holds = λ auth holds. none_is auth (sym none ∙ auth_again auth (auth_octets o) holds);
  first = before_auth o b fits h is;
}

pub no_fault : (o : List ℕ) (m : Message) → IsOctets o → ReadsAs o m → (fault : HtcpFault) → HasFault fault o → ⊥
no_fault o m fits h faults.Auth bad = bad m.auth (auth_takes (auth_octets o) m.auth (IsOctets-drop (big_number 2 (drop 4 o)) (drop 4 o) (IsOctets-drop 4 o fits)) h.auth)
no_fault o m fits h faults.Text bad = no_text_fault o m.body fits h.body bad
no_fault o m fits h faults.Short bad = no_header_fault o h.header faults.Short (omega arith) bad
no_fault o m fits h faults.Length bad = no_header_fault o h.header faults.Length (omega arith) bad
no_fault o m fits h faults.Major bad = no_header_fault o h.header faults.Major (omega arith) bad
no_fault o m fits h faults.Data bad = no_header_fault o h.header faults.Data (omega arith) bad

-- ---- results of the decoder

abbrev pub Answers : List ℕ → Result HtcpView HtcpFault → Type 0
Answers o r = MatchResult r (λ view. ReadsAs o (shown view) × (view.raw.now ≡ data_octets o)) (λ fault. IsFaultOf o fault)

pub found : (o : List ℕ) (r : Result HtcpView HtcpFault) → IsOctets o → Answers o r → IfOk r (λ view. Spells o view.raw.now (shown view))
found o (Ok view) fits h = subst (λ (raw : List ℕ). Spells o raw (shown view)) (sym h.1) (spelled_from_reads o (shown view) fits h.0)
found o (Err fault) fits h = tt

pub read_again : (o : List ℕ) (r : Result HtcpView HtcpFault) → IsOctets o → Answers o r → (raw : List ℕ) (m : Message) → Spells o raw m → IsOkAnd r (λ view. (shown view ≡ m) × (view.raw.now ≡ raw))
read_again o (Ok view) fits h raw m s =
    let p = reads_from_spelled o raw m s in
    (one_reading o (shown view) m h.0 p.0, h.1 ∙ p.1)
read_again o (Err fault) fits h raw m s = absurd (no_fault o m fits (reads_from_spelled o raw m s).0 fault h.holds)

-- argument and result of decoding the body
pub body_from_code : (o raw op_data : List ℕ) (form : Form) (b : Option Body) → raw ≡ data_octets o → form ≡ form_at raw → op_data ≡ drop 8 raw → b ≡ body_at form op_data → BodyAt o b
body_from_code o raw op_data form b raw-is form-is op-is is =
    ap (λ (x : List ℕ). body_at (form_at x) (drop 8 x)) (sym raw-is) ∙ ap (λ (f : Form). body_at f (drop 8 raw)) (sym form-is) ∙ ap (body_at form) (sym op-is) ∙ sym is
