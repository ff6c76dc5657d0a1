-- Options that are read one after the other.
use Rattle.std.proofs.Common.{◌≡◌, ℕ, suc, ◌+◌, ◌-◌, ◌<◌, ◌≤◌, List, refl, sym, ap, ◌∙◌, arith, true, false}
use Rattle.std.specs.Prelude.{if◌then◌else◌}
use Rattle.capture.specs.declared.order.Order.{Order}
use Rattle.capture.specs.declared.interface.Interface.{Interface}
use Rattle.capture.specs.Fields.{half}
use Rattle.capture.specs.Interface.{with_option, with_options, has_option, value_of, behind_option}

with_one : (order : Order) (n : ℕ) (x : Interface) (rest : List ℕ) → has_option order rest ≡ true → with_options order (suc n) x rest ≡ with_options order n (with_option order (half order rest 0) (value_of order rest) x) (behind_option order rest)
unfolding with_options
with_one order n x rest is = ap (λ b. if b then with_options order n (with_option order (half order rest 0) (value_of order rest) x) (behind_option order rest) else x) is

pub with_more : (order : Order) (n i : ℕ) (x y : Interface) (rest : List ℕ) → i < n → has_option order rest ≡ true → with_options order (n - i) x rest ≡ y → with_options order (n - suc i) (with_option order (half order rest 0) (value_of order rest) x) (behind_option order rest) ≡ y
with_more order n i x y rest within is e =
    let one : n - i ≡ suc (n - suc i) = omega (arith, within) in
    sym (with_one order (n - suc i) x rest is) ∙ sym (ap (λ m. with_options order m x rest) one) ∙ e

pub with_none : (order : Order) (n : ℕ) (x : Interface) (rest : List ℕ) → has_option order rest ≡ false → with_options order n x rest ≡ x
unfolding with_options
with_none order ℕ.zero x rest is = refl
with_none order (suc n) x rest is = ap (λ b. if b then with_options order n (with_option order (half order rest 0) (value_of order rest) x) (behind_option order rest) else x) is

pub with_end : (order : Order) (n i : ℕ) (x y : Interface) (rest : List ℕ) → n ≤ i → with_options order (n - i) x rest ≡ y → x ≡ y
unfolding with_options
with_end order n i x y rest end e =
    let none : n - i ≡ 0 = omega (arith, end) in
    sym (ap (λ m. with_options order m x rest) none) ∙ e

pub with_stop : (order : Order) (n : ℕ) (x y : Interface) (rest : List ℕ) → has_option order rest ≡ false → with_options order n x rest ≡ y → x ≡ y
with_stop order n x y rest is e = sym (with_none order n x rest is) ∙ e

pub with_next : (order : Order) (n i code : ℕ) (x next y : Interface) (rest value left : List ℕ) → i < n → has_option order rest ≡ true → code ≡ half order rest 0 → value ≡ value_of order rest → next ≡ with_option order code value x → left ≡ behind_option order rest → with_options order (n - i) x rest ≡ y → with_options order (n - (i + 1)) next left ≡ y
with_next order n i code x next y rest value left within is code_is value_is next_is left_is e =
    let count : n - (i + 1) ≡ n - suc i = omega arith in
    let said = next_is ∙ ap (λ (k : ℕ). with_option order k value x) code_is ∙ ap (λ (v : List ℕ). with_option order (half order rest 0) v x) value_is in
    ap (λ (m : ℕ). with_options order m next left) count
    ∙ ap (λ (z : Interface). with_options order (n - suc i) z left) said
    ∙ ap (λ (l : List ℕ). with_options order (n - suc i) (with_option order (half order rest 0) (value_of order rest) x) l) left_is
    ∙ with_more order n i x y rest within is e
