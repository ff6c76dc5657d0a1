use Rattle.std.proofs.Common.{◌≡◌, ℕ, zero, suc, ◌+◌, ◌-◌, ◌*◌, ◌<◌, inl, inr, cond, nat_lt, List, ◌∷◌, get_or, refl, ap, sym, ◌∙◌, arith}
use Rattle.std.specs.Prelude.{codes}
use Rattle.access_log.specs.declared.entry.Form.{Form}
use Rattle.access_log.specs.Reading.{StandsForItself, IsDigit, Reads, end, itself, common_digits, json_digits}
use Rattle.access_log.proofs.laws.a_text_reads_one_way.Goals as goal

-- a backslash doesn't stand for itself
no_backslash : StandsForItself 92 → ⊥
no_backslash (inl h) = omega (arith, h.1)
no_backslash (inr (inl h)) = omega (arith, h.1)
no_backslash (inr (inr h)) = omega (arith, h.0)

-- the value that a digit has
abbrev value : ℕ → ℕ
value digit = cond (nat_lt digit 58) (digit - 48) (digit - 55)

value_at : (v : ℕ) → v < 16 → value (get_or (codes "0123456789ABCDEF") v 0) ≡ v
value_at zero h = refl
value_at (suc zero) h = refl
value_at (suc (suc zero)) h = refl
value_at (suc (suc (suc zero))) h = refl
value_at (suc (suc (suc (suc zero)))) h = refl
value_at (suc (suc (suc (suc (suc zero))))) h = refl
value_at (suc (suc (suc (suc (suc (suc zero)))))) h = refl
value_at (suc (suc (suc (suc (suc (suc (suc zero))))))) h = refl
value_at (suc (suc (suc (suc (suc (suc (suc (suc zero)))))))) h = refl
value_at (suc (suc (suc (suc (suc (suc (suc (suc (suc zero))))))))) h = refl
value_at (suc (suc (suc (suc (suc (suc (suc (suc (suc (suc zero)))))))))) h = refl
value_at (suc (suc (suc (suc (suc (suc (suc (suc (suc (suc (suc zero))))))))))) h = refl
value_at (suc (suc (suc (suc (suc (suc (suc (suc (suc (suc (suc (suc zero)))))))))))) h = refl
value_at (suc (suc (suc (suc (suc (suc (suc (suc (suc (suc (suc (suc (suc zero))))))))))))) h = refl
value_at (suc (suc (suc (suc (suc (suc (suc (suc (suc (suc (suc (suc (suc (suc zero)))))))))))))) h = refl
value_at (suc (suc (suc (suc (suc (suc (suc (suc (suc (suc (suc (suc (suc (suc (suc zero))))))))))))))) h = refl
value_at (suc (suc (suc (suc (suc (suc (suc (suc (suc (suc (suc (suc (suc (suc (suc (suc k)))))))))))))))) h = absurd (omega arith)

one_value : (digit a b : ℕ) → IsDigit digit a → IsDigit digit b → a ≡ b
one_value digit a b p q = sym (value_at a p.0) ∙ ap value (sym p.1 ∙ q.1) ∙ value_at b q.0

same : (high low a b x y : ℕ) (one other : List ℕ) → IsDigit high a → IsDigit low b → IsDigit high x → IsDigit low y → one ≡ other → ((16 * a + b) ∷ one) ≡ ((16 * x + y) ∷ other)
same high low a b x y one other p q s t e =
    ap (λ (n : ℕ). (16 * n + b) ∷ one) (one_value high a x p s) ∙ ap (λ (n : ℕ). (16 * x + n) ∷ one) (one_value low b y q t)
    ∙ ap (λ (xs : List ℕ). (16 * x + y) ∷ xs) e

one_way : {form : Form} {written one other : List ℕ} → Reads form written one → Reads form written other → one ≡ other
one_way end end = refl
one_way (itself {octet = n} s r) (itself t q) = ap (λ (xs : List ℕ). n ∷ xs) (one_way r q)
one_way (itself s r) (common_digits h l q) = absurd (no_backslash s)
one_way (itself s r) (json_digits h l q) = absurd (no_backslash s)
one_way (common_digits h l r) (itself t q) = absurd (no_backslash t)
one_way (json_digits h l r) (itself t q) = absurd (no_backslash t)
one_way (common_digits h l r) (common_digits i m q) = same _ _ _ _ _ _ _ _ h l i m (one_way r q)
one_way (json_digits h l r) (json_digits i m q) = same _ _ _ _ _ _ _ _ h l i m (one_way r q)

pub returns : goal.returns
returns c = λ form written one other r q. one_way r q
