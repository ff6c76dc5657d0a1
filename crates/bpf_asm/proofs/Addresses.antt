-- What std parses as an address agrees with the definition, and an address has one value.
use Rattle.std.proofs.Common.{◌≡◌, ℕ, ◌+◌, ◌*◌, ◌^◌, List, [], ◌∷◌, length, get_or, Bool, true, false, Some, None, Result, Ok, Err, refl, ap, sym, subst, ◌∙◌, arith, lit≤, append-nil, ne_eqb}
use Rattle.std.proofs.NetLemmas.Ipv4.{read_ipv4_complete, read_ipv4_sound}
use Rattle.std.proofs.NetLemmas.Options.{same_parts}
use Rattle.std.specs.declared.net.ipv4_addr.Ipv4Addr.{Ipv4Addr}
use Rattle.std.specs.Int.{w32, from_be_bytes}
use Rattle.std.specs.Net.Addr.{ipv4_octets, ipv4_bits}
use Rattle.std.specs.Net.Grammar.{IsDotted, IsIpv4Text, Parses}
use Rattle.std.specs.Net.Reader.{Read, read_ipv4, whole_value}
use Rattle.std.specs.Option.{is_some}
use Rattle.std.specs.Result.{is_ok}
use Rattle.bpf_asm.specs.declared.number.Notation.{Notation}
use Rattle.bpf_asm.specs.declared.number.Notation.TheVariants.{Decimal, Hexadecimal, Address}
use Rattle.bpf_asm.specs.Number.{IsAddress, notation, IsWritten, IsNumeral}
use Rattle.bpf_asm.specs.Reading.{is_address, is_written, is_numeral}

dotted : (word : List ℕ) (n : ℕ) (h : IsAddress word n) → IsDotted word (h.a ∷ h.b ∷ h.c ∷ h.d ∷ [])
dotted word n h = record { a = h.a; b = h.b; c = h.c; d = h.d; fit = h.fit; value = refl; spelled = h.written }

of_dotted : (word octets : List ℕ) → IsDotted word octets → (n : ℕ) × IsAddress word n
of_dotted word octets h = (_, record { a = h.a; b = h.b; c = h.c; d = h.d; fit = h.fit; written = h.spelled; value = refl })

read : (word : List ℕ) (n : ℕ) (h : IsAddress word n) → read_ipv4 word ≡ Some (h.a ∷ h.b ∷ h.c ∷ h.d ∷ [], [])
read word n h = rw append-nil at (read_ipv4_complete word _ [] (dotted word n h) (lit≤ tt))

address_test : (word : List ℕ) (n : ℕ) → IsAddress word n → is_address word ≡ true
address_test word n h = ap (λ (r : Read (List ℕ)). is_some (whole_value r)) (read word n h)

whole : (word octets rest : List ℕ) → read_ipv4 word ≡ Some (octets, rest) → is_some (whole_value (Some (octets, rest))) ≡ true → (n : ℕ) × IsAddress word n
whole word octets [] e h =
    let (front, split, is) = read_ipv4_sound word octets [] e in
    of_dotted word octets (subst (λ (t : List ℕ). IsDotted t octets) (sym (split ∙ append-nil front)) is)
whole word octets (c ∷ rest) e h = absurd (let k = rw (ne_eqb (length (c ∷ rest)) 0 (omega arith)) at h in cc)

tested : (word : List ℕ) (r : Read (List ℕ)) → read_ipv4 word ≡ r → is_some (whole_value r) ≡ true → (n : ℕ) × IsAddress word n
tested word None e h = absurd (cc)
tested word (Some p) e h = whole word p.0 p.1 e h

test_address : (word : List ℕ) → is_address word ≡ true → (n : ℕ) × IsAddress word n
test_address word h = tested word (read_ipv4 word) refl h

pub address_same : (word : List ℕ) (m n : ℕ) → IsAddress word m → IsAddress word n → m ≡ n
address_same word m n p q =
    let e = (same_parts _ _ _ _ (sym (read word m p) ∙ read word n q)).0 in
    let a : p.a ≡ q.a = ap (λ (o : List ℕ). get_or o 0 0) e in
    let b : p.b ≡ q.b = ap (λ (o : List ℕ). get_or o 1 0) e in
    let c : p.c ≡ q.c = ap (λ (o : List ℕ). get_or o 2 0) e in
    let d : p.d ≡ q.d = ap (λ (o : List ℕ). get_or o 3 0) e in
    omega (arith, p.value, q.value)

-- ---- what std parses

untested : (word : List ℕ) (b : Bool) → is_address word ≡ b → ((n : ℕ) → IsAddress word n → ⊥) → false ≡ b
untested word true e none = absurd (let p = test_address word e in none p.0 p.1)
untested word false e none = refl

no_address : (word : List ℕ) → ((a : Ipv4Addr) → IsIpv4Text word a → ⊥) → (n : ℕ) → IsAddress word n → ⊥
no_address word none n h = none (record { octets = h.a ∷ h.b ∷ h.c ∷ h.d ∷ [] }) (dotted word n h)

pub parsed_test : {E : Type 0} (word : List ℕ) (r : Result Ipv4Addr E) → Parses IsIpv4Text word r → is_ok r ≡ is_address word
parsed_test word (Ok a) h = sym (address_test word _ (of_dotted word (ipv4_octets a) h).1)
parsed_test word (Err e) h = untested word (is_address word) refl (no_address word h)

value_of_octets : (a b c d : ℕ) → from_be_bytes w32 (a ∷ b ∷ c ∷ d ∷ []) ≡ a * 2 ^ 24 + b * 2 ^ 16 + c * 2 ^ 8 + d
value_of_octets a b c d = omega arith

address_bits : (word : List ℕ) (a : Ipv4Addr) → IsIpv4Text word a → IsAddress word (ipv4_bits a)
unfolding ipv4_bits
address_bits word a h = record {
  a = h.a;
  b = h.b;
  c = h.c;
  d = h.d;
  fit = h.fit;
  written = h.spelled;
  value = ap (from_be_bytes w32) h.value ∙ value_of_octets h.a h.b h.c h.d;
}

pub refused_none : {E : Type 0} (word : List ℕ) (r : Result Ipv4Addr E) (e : E) → r ≡ Err e → Parses IsIpv4Text word r → (n : ℕ) → IsAddress word n → ⊥
refused_none word r e is h = no_address word (subst (Parses IsIpv4Text word) is h)

pub parsed_bits : {E : Type 0} (word : List ℕ) (r : Result Ipv4Addr E) (a : Ipv4Addr) (n : ℕ) → r ≡ Ok a → n ≡ ipv4_bits a → Parses IsIpv4Text word r → IsAddress word n
parsed_bits word r a n is same h = subst (IsAddress word) (sym same) (address_bits word a (subst (Parses IsIpv4Text word) is h))

-- ---- numerals

written_test : (k : Notation) (word : List ℕ) → IsWritten k word → is_written k word ≡ true
written_test Decimal word h = h
written_test Hexadecimal word h = h
written_test Address word h = address_test word h.0 h.1

test_written : (k : Notation) (word : List ℕ) → is_written k word ≡ true → IsWritten k word
test_written Decimal word h = h
test_written Hexadecimal word h = h
test_written Address word h = test_address word h

pub numeral_test : (word : List ℕ) → IsNumeral word → is_numeral word ≡ true
unfolding IsNumeral is_numeral
numeral_test word h = written_test (notation word) word h

pub test_numeral : (word : List ℕ) → is_numeral word ≡ true → IsNumeral word
unfolding IsNumeral is_numeral
test_numeral word h = test_written (notation word) word h
