use Rattle.std.proofs.Common.{◌≡◌, ℕ, zero, suc, ◌+◌, ◌*◌, ◌/◌, ◌%◌, ◌<◌, ◌≤◌, inl, inr, Bool, true, false, ◌&&◌, cond, not, nat_lt, nat_eq, List, [], ◌∷◌, ◌++◌, get_or, take, refl, subst, arith}
use Rattle.std.specs.Prelude.{codes}
use Rattle.std.specs.List.{All, flat_map}
use Rattle.std.proofs.lemmas.Bool.Decides.{nat_tests}
use Rattle.std.proofs.lemmas.List.Elements.{All-head, All-tail, All-take}
use Rattle.access_log.specs.declared.entry.Form.{Form}
use Rattle.access_log.specs.declared.entry.Form.TheVariants.{Common, Json}
use Rattle.access_log.specs.Escaped.{is_printable, is_plain, hex_digit, mark, escaped_octet, escaped}
use Rattle.access_log.specs.Reading.{StandsForItself, IsDigit, Reads, end, itself, common_digits, json_digits}
use Rattle.access_log.proofs.Clean.{both}
use Rattle.access_log.proofs.laws.escaped_texts_read_back.Goals as goal

-- an octet that is plain stands for itself
stands_in : (n : ℕ) (b c : Bool) → nat_lt n 34 ≡ b → nat_lt n 92 ≡ c → 32 ≤ n → n ≤ 126 → nat_eq n 34 ≡ false → nat_eq n 92 ≡ false → StandsForItself n
stands_in n true c below _ lo hi q s = inl (lo, grind (arith, nat_tests))
stands_in n false true below under lo hi q s = inr (inl (grind (arith, nat_tests), grind (arith, nat_tests)))
stands_in n false false below under lo hi q s = inr (inr (grind (arith, nat_tests), hi))

stands : (n : ℕ) → is_plain n ≡ true → StandsForItself n
stands n e =
    let p = both (is_printable n && not (nat_eq n 34)) (not (nat_eq n 92)) e in
    let q = both (is_printable n) (not (nat_eq n 34)) p.0 in
    stands_in n (nat_lt n 34) (nat_lt n 92) refl refl (grind (arith, nat_tests)) (grind (arith, nat_tests)) (grind (arith, nat_tests)) (grind (arith, nat_tests))

-- the digit of a value stands at its place
digit_at : (v : ℕ) → v < 16 → cond (nat_lt v 10) (48 + v) (55 + v) ≡ get_or (codes "0123456789ABCDEF") v 0
digit_at zero h = refl
digit_at (suc zero) h = refl
digit_at (suc (suc zero)) h = refl
digit_at (suc (suc (suc zero))) h = refl
digit_at (suc (suc (suc (suc zero)))) h = refl
digit_at (suc (suc (suc (suc (suc zero))))) h = refl
digit_at (suc (suc (suc (suc (suc (suc zero)))))) h = refl
digit_at (suc (suc (suc (suc (suc (suc (suc zero))))))) h = refl
digit_at (suc (suc (suc (suc (suc (suc (suc (suc zero)))))))) h = refl
digit_at (suc (suc (suc (suc (suc (suc (suc (suc (suc zero))))))))) h = refl
digit_at (suc (suc (suc (suc (suc (suc (suc (suc (suc (suc zero)))))))))) h = refl
digit_at (suc (suc (suc (suc (suc (suc (suc (suc (suc (suc (suc zero))))))))))) h = refl
digit_at (suc (suc (suc (suc (suc (suc (suc (suc (suc (suc (suc (suc zero)))))))))))) h = refl
digit_at (suc (suc (suc (suc (suc (suc (suc (suc (suc (suc (suc (suc (suc zero))))))))))))) h = refl
digit_at (suc (suc (suc (suc (suc (suc (suc (suc (suc (suc (suc (suc (suc (suc zero)))))))))))))) h = refl
digit_at (suc (suc (suc (suc (suc (suc (suc (suc (suc (suc (suc (suc (suc (suc (suc zero))))))))))))))) h = refl
digit_at (suc (suc (suc (suc (suc (suc (suc (suc (suc (suc (suc (suc (suc (suc (suc (suc k)))))))))))))))) h = absurd (omega arith)

digit : (n : ℕ) → IsDigit (hex_digit n) (n % 16)
digit n = (omega arith, digit_at (n % 16) (omega arith))

whole : (n : ℕ) → n < 256 → 16 * (n / 16 % 16) + n % 16 ≡ n
whole n h = omega (arith, h)

octet_reads : (form : Form) (octet : ℕ) (b : Bool) (written text : List ℕ) → is_plain octet ≡ b → octet < 256 → Reads form written text → Reads form (cond b (octet ∷ []) (mark form ++ hex_digit (octet / 16) ∷ hex_digit octet ∷ []) ++ written) (octet ∷ text)
octet_reads form octet true written text e h r = itself (stands octet e) r
octet_reads Common octet false written text e h r =
    subst (λ (n : ℕ). Reads Common (92 ∷ 120 ∷ hex_digit (octet / 16) ∷ hex_digit octet ∷ written) (n ∷ text)) (whole octet h)
    (common_digits (digit (octet / 16)) (digit octet) r)
octet_reads Json octet false written text e h r =
    subst (λ (n : ℕ). Reads Json (92 ∷ 117 ∷ 48 ∷ 48 ∷ hex_digit (octet / 16) ∷ hex_digit octet ∷ written) (n ∷ text)) (whole octet h)
    (json_digits (digit (octet / 16)) (digit octet) r)

texts_read : (form : Form) (text : List ℕ) → All (λ octet. octet < 256) text → Reads form (flat_map (escaped_octet form) text) text
texts_read form [] h = end
texts_read form (octet ∷ text) h =
    octet_reads form octet (is_plain octet) (flat_map (escaped_octet form) text) text refl (All-head (λ n. n < 256) octet text h)
    (texts_read form text (All-tail (λ n. n < 256) octet text h))

pub returns : goal.returns
unfolding escaped
returns c = λ form text h. texts_read form (take 8192 text) (All-take (λ n. n < 256) 8192 text h)
