-- Header fields, decoded and encoded.
use Rattle.std.proofs.Common.{◌≡◌, ℕ, ◌≤◌, List, [], ◌∷◌, ◌++◌, length, take, drop, get_or, refl, sym, ap, ◌∙◌, arith}
use Rattle.std.specs.Prelude.{slice_index}
use Rattle.std.proofs.lemmas.List.{take_at, drop_at, drop_more, get_or-drop, length-drop, length-append}
use Rattle.byteorder.specs.Endian.{big_bytes, big_number}
use Rattle.byteorder.specs.Numbers.{big_number-reads_back}
use Rattle.icp_packet.specs.Message.{Message, code, payload, spelling, spelled_length, Spells}
use Rattle.wire_octets.specs.Octets.{IsOctets}
use Rattle.wire_octets.proofs.Fields.{part, field2, field4}
use Rattle.icp_packet.specs.Parts.{IsHeader}

four_cells : (xs : List ℕ) → 4 ≤ length xs → take 4 xs ≡ get_or xs 0 0 ∷ get_or xs 1 0 ∷ get_or xs 2 0 ∷ get_or xs 3 0 ∷ []
four_cells [] le = absurd (omega arith)
four_cells (a ∷ []) le = absurd (omega arith)
four_cells (a ∷ b ∷ []) le = absurd (omega arith)
four_cells (a ∷ b ∷ c ∷ []) le = absurd (omega arith)
four_cells (a ∷ b ∷ c ∷ d ∷ xs) le = refl

-- the fields that the decoder read from the header, except the opcode
pub record AreFields (octets : List ℕ) (m : Message) : Type 0 where
  pub number : m.number ≡ big_number 4 (drop 4 octets)
  pub options : m.options ≡ big_number 4 (drop 8 octets)
  pub option_data : m.option_data ≡ big_number 4 (drop 12 octets)
  pub sender : m.sender ≡ take 4 (drop 16 octets)
  pub payload_is : drop 20 octets ≡ payload m.body

pub sender_cells : (octets : List ℕ) → 20 ≤ length octets → get_or octets 16 0 ∷ get_or octets 17 0 ∷ get_or octets 18 0 ∷ get_or octets 19 0 ∷ [] ≡ take 4 (drop 16 octets)
sender_cells octets le = sym (four_cells (drop 16 octets) (omega (arith, length-drop 16 octets)) ∙ rw (get_or-drop 16 octets 0 0, get_or-drop 16 octets 1 0, get_or-drop 16 octets 2 0, get_or-drop 16 octets 3 0) refl)

-- a valid header and payload together are the encoding of the message
pub spelled_from_fields : (octets : List ℕ) (m : Message) → IsOctets octets → IsHeader octets m.op → AreFields octets m → octets ≡ spelling m
spelled_from_fields octets m fits h f =
    let le : 20 ≤ length octets = h.whole in
    let len : length octets ≡ spelled_length m = omega (arith, ap length f.payload_is, length-drop 20 octets) in
    let e16 : drop 16 octets ≡ m.sender ++ payload m.body = part 16 4 octets ∙ rw (f.sender, ← f.payload_is) refl in
    let e12 : drop 12 octets ≡ big_bytes 4 m.option_data ++ (m.sender ++ payload m.body) = field4 12 octets fits (omega arith) ∙ rw (f.option_data, ← e16) refl in
    let e8 : drop 8 octets ≡ big_bytes 4 m.options ++ drop 12 octets = field4 8 octets fits (omega arith) ∙ rw f.options refl in
    let e4 : drop 4 octets ≡ big_bytes 4 m.number ++ drop 8 octets = field4 4 octets fits (omega arith) ∙ rw f.number refl in
    let e2 : drop 2 octets ≡ big_bytes 2 (spelled_length m) ++ drop 4 octets = field2 2 octets fits (omega arith) ∙ rw (h.len, len) refl in
    let e1 : drop 1 octets ≡ 2 ∷ drop 2 octets = drop_more octets 1 0 (omega arith) ∙ ap (λ (v : ℕ). v ∷ drop 2 octets) h.version in
    let e0 : octets ≡ code m.op ∷ drop 1 octets = drop_more octets 0 0 (omega arith) ∙ ap (λ (v : ℕ). v ∷ drop 1 octets) h.opcode in
    e0 ∙ ap (λ (r : List ℕ). code m.op ∷ r) (e1 ∙ ap (λ (r : List ℕ). 2 ∷ r) (e2 ∙ ap (λ (r : List ℕ). big_bytes 2 (spelled_length m) ++ r) (e4 ∙ ap (λ (r : List ℕ). big_bytes 4 m.number ++ r) (e8 ∙ ap (λ (r : List ℕ). big_bytes 4 m.options ++ r) e12))))

-- ---- the fields read from an encoded message

pub length-spelling : (m : Message) → length m.sender ≡ 4 → length (spelling m) ≡ spelled_length m
length-spelling m four = omega (arith, length-append m.sender (payload m.body))

pub header_is : (octets : List ℕ) (m : Message) → Spells octets m → IsHeader octets m.op
header_is octets m s =
    let len : length (spelling m) ≡ spelled_length m = length-spelling m s.message.sender in
    let same : length octets ≡ spelled_length m = ap length s.spelled ∙ len in
    record {
      whole = omega arith;
      version = ap (λ (x : List ℕ). slice_index x 1) s.spelled;
      opcode = ap (λ (x : List ℕ). slice_index x 0) s.spelled;
      len = ap (λ (x : List ℕ). big_number 2 (drop 2 x)) s.spelled ∙ big_number-reads_back 2 (spelled_length m) (drop 4 (spelling m)) (let small = s.within in omega arith) ∙ sym same;
      within = s.within;
    }

pub fields_are : (octets : List ℕ) (m : Message) → Spells octets m → AreFields octets m
fields_are octets m s = record {
  number = sym (ap (λ (x : List ℕ). big_number 4 (drop 4 x)) s.spelled ∙ big_number-reads_back 4 m.number (drop 8 (spelling m)) s.message.number);
  options = sym (ap (λ (x : List ℕ). big_number 4 (drop 8 x)) s.spelled ∙ big_number-reads_back 4 m.options (drop 12 (spelling m)) s.message.options);
  option_data = sym (ap (λ (x : List ℕ). big_number 4 (drop 12 x)) s.spelled ∙ big_number-reads_back 4 m.option_data (drop 16 (spelling m)) s.message.option_data);
  sender = sym (ap (λ (x : List ℕ). take 4 (drop 16 x)) s.spelled ∙ take_at m.sender (payload m.body) 4 s.message.sender);
  payload_is = ap (drop 20) s.spelled ∙ drop_at m.sender (payload m.body) 4 s.message.sender;
}
