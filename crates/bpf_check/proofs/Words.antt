-- Instructions compared as single words.
use Rattle.std.proofs.Common.{◌≡◌, ℕ, ◌+◌, ◌*◌, ◌^◌, ◌/◌, ◌%◌, List, slice_index_or, bit_or, bit_xor, sym, ap, ◌∙◌, arith}
use Rattle.std.specs.Int.Bits.{xor_self}
use Rattle.std.proofs.lemmas.Nat.{le_or_l, le_or_r}
use Rattle.std.proofs.lemmas.Nat.Bits.{same_from_bits, bit_at_xor, bit_at-zero, bit_at-lt}
use Rattle.bpf_check.specs.declared.insn.Insn.{Insn}
use Rattle.bpf_check.specs.Insn.{InRange}

-- the four fields packed into one word
abbrev pub word_of : Insn → ℕ
word_of i = i.code + i.jt * 65536 + i.jf * 16777216 + i.k * 4294967296

-- the instruction that reading outside a program gives
abbrev pub blank : Insn
blank = record { code = 0; jt = 0; jf = 0; k = 0 }

-- the instruction at an index
abbrev pub insn_at : List Insn → ℕ → Insn
insn_at p place = slice_index_or p place blank

-- numbers that differ in no bit are equal
same_number : (a b : ℕ) → bit_xor a b ≡ 0 → a ≡ b
same_number a b none =
    same_from_bits a b (λ i. omega (arith, sym (bit_at_xor a b i) ∙ ap (λ n. n / 2 ^ i % 2) none ∙ bit_at-zero i, bit_at-lt a i, bit_at-lt b i))

-- instructions with equal words are equal
pub same_word : (x y : Insn) → InRange x → InRange y → word_of x ≡ word_of y → x ≡ y
same_word x y in_x in_y e =
    let k : x.k ≡ y.k = omega (arith, in_x, in_y) in
    let jf : x.jf ≡ y.jf = omega (arith, in_x, in_y, k) in
    let jt : x.jt ≡ y.jt = omega (arith, in_x, in_y, k, jf) in
    let code : x.code ≡ y.code = omega (arith, in_x, in_y, k, jf, jt) in
    λ i. record { code = code i; jt = jt i; jf = jf i; k = k i }

-- if two words add no difference to those so far, there was none so far
pub none_before : (d a b : ℕ) → bit_or d (bit_xor a b) ≡ 0 → d ≡ 0
none_before d a b none = omega (arith, le_or_l d (bit_xor a b))

pub none_here : (d a b : ℕ) → bit_or d (bit_xor a b) ≡ 0 → a ≡ b
none_here d a b none = same_number a b (omega (arith, le_or_r d (bit_xor a b)))

-- equal words add no difference
pub still_none : (d a b : ℕ) → d ≡ 0 → a ≡ b → bit_or d (bit_xor a b) ≡ 0
still_none d a b none e =
    ap (λ n. bit_or n (bit_xor a b)) none ∙ ap (λ n. bit_or 0 (bit_xor a n)) (sym e) ∙ ap (bit_or 0) (xor_self a)
