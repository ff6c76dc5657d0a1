-- What is written is in the grammar: it encodes the message.
use Rattle.std.proofs.Common.{◌≡◌, ℕ, ◌+◌, ◌*◌, ◌^◌, ◌<◌, ◌≤◌, List, [], ◌∷◌, ◌++◌, length, refl, sym, ap, ◌∙◌, append_assoc, arith, inl}
use Rattle.std.proofs.lemmas.List.{length-append, append-nil}
use Rattle.byteorder.specs.Endian.{big_bytes}
use Rattle.htcp_packet.specs.declared.message.Form.{Form}
use Rattle.htcp_packet.specs.declared.message.Form.TheVariants as forms
use Rattle.htcp_packet.specs.Message.{Message, Spec, Details, Body, empty, specifier, clear, detail, cache_headers, opaque, Auth, signed, Seal, form_of, countstr, seal_text, spec_text, detail_text, IsSpec, IsDetails, HoldsBody, HoldsAuth, bit, Spells}
use Rattle.hmac_md5.specs.Hmac.{hmac}
use Rattle.hmac_md5.proofs.Lengths.{length-hmac}
use Rattle.htcp_packet.specs.Signing.{covered, expiry, seal_for}
use Rattle.htcp_packet.proofs.Lengths.{length-sealed}
use Rattle.htcp_packet.specs.Writing.{body_text, data_text, auth_text, message_text, FitsForm, IsWritable}

is_spec : (s : Spec) → length (spec_text s) < 2 ^ 16 → IsSpec s
is_spec s lt =
    let a = length-append s.method (countstr s.uri ++ (countstr s.version ++ countstr s.headers)) in
    let b = length-append s.uri (countstr s.version ++ countstr s.headers) in
    let c = length-append s.version (countstr s.headers) in
    record { method = omega arith; uri = omega arith; version = omega arith; headers = omega arith }

is_details : (d : Details) → length (detail_text d) < 2 ^ 16 → IsDetails d
is_details d lt =
    let a = length-append d.response (countstr d.entity ++ countstr d.cache) in
    let b = length-append d.entity (countstr d.cache) in
    record { response = omega arith; entity = omega arith; cache = omega arith }

holds_text : (f : Form) (b : Body) → FitsForm f b → length (body_text b) < 2 ^ 16 → HoldsBody f b (body_text b)
holds_text forms.Empty empty fits lt = tt
holds_text forms.Specifier (specifier s) fits lt = (is_spec s lt, ([], sym (append-nil (spec_text s))))
holds_text forms.Clear (clear reason s) fits lt =
    record { reserved = 0; reserved_fits = omega arith; reason_fits = fits; texts = is_spec s (omega arith); begins = ([], sym (append-nil (big_bytes 2 reason ++ spec_text s)) ∙ ap (λ (k : ℕ). (big_bytes 2 k ++ spec_text s) ++ []) (omega arith)) }
holds_text forms.Detail (detail d) fits lt = (is_details d lt, ([], sym (append-nil (detail_text d))))
holds_text forms.CacheHeaders (cache_headers h) fits lt = inl (omega arith, ([], sym (append-nil (countstr h))))
holds_text forms.Opaque (opaque all) fits lt = refl
holds_text form body fits lt = absurd fits

pub spelled_from_written : (m : Message) (out : List ℕ) → IsWritable m → m.trans < 2 ^ 32 → HoldsAuth m.auth (auth_text m.auth) → length (message_text m) ≤ 65507 → out ≡ message_text m → Spells out (data_text m) m
spelled_from_written m out can trans auth short is =
    let len : length (message_text m) ≡ length (data_text m) + length (auth_text m.auth) + 4 = omega (arith, length-append (body_text m.body) (auth_text m.auth)) in
    let out_len : length out ≡ length (data_text m) + length (auth_text m.auth) + 4 = ap length is ∙ len in
    record {
      authentication = auth_text m.auth;
      fits = omega arith;
      spelled = is ∙ ap (λ (k : ℕ). big_bytes 2 k ++ (0 ∷ m.minor ∷ data_text m ++ auth_text m.auth)) (sym out_len);
      contents = record {
        reserved = 0;
        op_data = body_text m.body;
        reserved_fits = omega arith;
        opcode_fits = can.opcode;
        response_fits = can.response;
        trans_fits = trans;
        spelled = ap (λ (k : ℕ). big_bytes 2 k ++ ((16 * m.opcode + m.response) ∷ (2 * bit m.f1 + bit m.rr) ∷ big_bytes 4 m.trans ++ body_text m.body)) (omega arith)
            ∙ ap (λ (k : ℕ). big_bytes 2 (length (data_text m)) ++ ((16 * m.opcode + m.response) ∷ k ∷ big_bytes 4 m.trans ++ body_text m.body)) (let same : 2 * bit m.f1 + bit m.rr ≡ 4 * 0 + 2 * bit m.f1 + bit m.rr = omega arith in same);
        body = holds_text (form_of m.opcode m.response m.f1 m.rr) m.body can.body (omega arith);
      };
      auth = auth;
    }

-- a seal of these fields
abbrev pub seal_with : ℕ → ℕ → List ℕ → List ℕ → Seal
seal_with time expire name code = record { time = time; expire = expire; key_name = name; signature = code }

-- associativity of appending five pieces
pub five_put : (old a b c d e w x y z new : List ℕ) → w ≡ old ++ a → x ≡ w ++ b → y ≡ x ++ c → z ≡ y ++ d → new ≡ z ++ e → new ≡ old ++ (a ++ (b ++ (c ++ (d ++ e))))
five_put old a b c d e w x y z new w-is x-is y-is z-is new-is = rw (new-is, z-is, y-is, x-is, w-is) (simp append_assoc)

-- a signed AUTH whose signature has 16 octets
pub seal_put : (old : List ℕ) (s : Seal) (n : ℕ) (w x y z new : List ℕ) → length s.signature ≡ 16 → n ≡ 30 + length s.key_name → w ≡ old ++ big_bytes 2 n → x ≡ w ++ big_bytes 4 s.time → y ≡ x ++ big_bytes 4 s.expire → z ≡ y ++ countstr s.key_name → new ≡ z ++ countstr s.signature → new ≡ old ++ auth_text (signed s)
seal_put old s n w x y z new long n-is w-is x-is y-is z-is new-is =
    let len : n ≡ length (seal_text s) + 2 = omega (arith, long, n-is, length-append s.key_name (countstr s.signature)) in
    five_put old (big_bytes 2 n) (big_bytes 4 s.time) (big_bytes 4 s.expire) (countstr s.key_name) (countstr s.signature) w x y z new w-is x-is y-is z-is new-is
    ∙ ap (λ (k : ℕ). old ++ (big_bytes 2 k ++ seal_text s)) len

-- a whole message from its front and its AUTH
pub message_put : (m : Message) (a : Auth) (front out : List ℕ) (n : ℕ) → front ≡ big_bytes 2 n ++ (0 ∷ m.minor ∷ data_text m) → out ≡ front ++ auth_text a → n ≡ length (data_text m) + length (auth_text a) + 4 → out ≡ message_text (record m { auth = a })
message_put m a front out n front-is out-is n-is =
    out-is ∙ ap (λ (x : List ℕ). x ++ auth_text a) front-is ∙ ap (λ (k : ℕ). big_bytes 2 k ++ (0 ∷ m.minor ∷ data_text m ++ auth_text a)) n-is

-- the seal that signing makes
pub seal_made : (m : Message) (ends name secret : List ℕ) (seconds expire : ℕ) (raw code : List ℕ) → expire ≡ expiry seconds → raw ≡ data_text m → code ≡ hmac secret (covered ends m.minor seconds expire raw name) → seal_with seconds expire name code ≡ seal_for m ends name secret seconds
seal_made m ends name secret seconds expire raw code expire-is raw-is code-is =
    let code_is : code ≡ hmac secret (covered ends m.minor seconds (expiry seconds) (data_text m) name) = code-is ∙ ap (λ (e : ℕ). hmac secret (covered ends m.minor seconds e raw name)) expire-is ∙ ap (λ (r : List ℕ). hmac secret (covered ends m.minor seconds (expiry seconds) r name)) raw-is in
    ap (λ (e : ℕ). seal_with seconds e name code) expire-is ∙ ap (seal_with seconds (expiry seconds) name) code_is

-- a signed AUTH is in the grammar
pub holds_sealed : (m : Message) (ends name secret : List ℕ) (seconds : ℕ) → seconds < 2 ^ 32 → length name ≤ 65465 → HoldsAuth (signed (seal_for m ends name secret seconds)) (auth_text (signed (seal_for m ends name secret seconds)))
holds_sealed m ends name secret seconds fits short =
    let s = seal_for m ends name secret seconds in
    let long = length-hmac secret (covered ends m.minor seconds (expiry seconds) (data_text m) name) in
    record {
      inside = seal_text s;
      inside_fits = omega (arith, length-sealed m ends name secret seconds);
      seal = record { time = fits; expire = omega arith; key_name = omega arith; signature = omega (arith, long) };
      sealed = ([], sym (append-nil (seal_text s)));
      begins = ([], sym (append-nil (auth_text (signed s))));
    }
