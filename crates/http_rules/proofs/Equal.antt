-- Texts that are equal.
use Rattle.std.proofs.Common.{◌≡◌, ◌↔◌, ℕ, List, bytes_eq, Bool, IsTrue, sym, ◌∙◌, inl, inr}
use Rattle.std.proofs.lemmas.Bool.{cases_Bool}
use Rattle.std.proofs.lemmas.Slice.Eq.{bytes_eq-Decides}

-- what is true exactly where two texts are equal
pub decided : (b : Bool) (xs ys : List ℕ) → (IsTrue b ↔ (xs ≡ ys)) → b ≡ bytes_eq xs ys
decided b xs ys h =
    elim (cases_Bool b) [
      | inl t ↦ t ∙ sym ((bytes_eq-Decides xs ys).1 (h.0 t))
      | inr f ↦
          elim (cases_Bool (bytes_eq xs ys)) [
            | inl t ↦ h.1 ((bytes_eq-Decides xs ys).0 t) ∙ sym t
            | inr g ↦ f ∙ sym g
          ]
    ]

-- the order of the two does not matter
pub bytes_eq-swapped : (xs ys : List ℕ) → bytes_eq xs ys ≡ bytes_eq ys xs
bytes_eq-swapped xs ys =
    decided (bytes_eq xs ys) ys xs (λ t. sym ((bytes_eq-Decides xs ys).0 t), λ e. (bytes_eq-Decides xs ys).1 (sym e))
