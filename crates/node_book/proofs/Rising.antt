-- One more receipt has a number below a given one.
use Rattle.std.proofs.Common.{◌≡◌, ℕ, ◌<◌, ◌≤◌, ◌+◌, List, Bool, true, false, ◌&&◌, length, take, inl, inr, refl, arith, sym, ap, ◌∙◌}
use Rattle.std.specs.Prelude.{Some, slice_get, nat_lt}
use Rattle.std.specs.List.{list_all}
use Rattle.std.proofs.lemmas.List.Folds.{list_all_more}
use Rattle.std.proofs.lemmas.Option.{slice_get_cases}
use Rattle.std.proofs.lemmas.Bool.Decides.{nat_tests}
use Rattle.node_book.specs.Seats.{Claim}

rise_step : (cs : List Claim) (i n m : ℕ) → i < length cs → ((c : Claim) → slice_get cs i ≡ Some c → m ≡ c.number)
    → list_all (λ d. nat_lt d.number n) (take (i + 1) cs) ≡ (list_all (λ d. nat_lt d.number n) (take i cs) && nat_lt m n)
rise_step cs i n m lt at =
    elim (slice_get_cases cs i).1 [
      | inl h ↦ list_all_more (λ d. nat_lt d.number n) cs i h.0 lt
          ∙ ap (λ k. list_all (λ d. nat_lt d.number n) (take i cs) && nat_lt k n) (ap (λ (c : Claim). c.number) h.3 ∙ sym (at h.0 h.2))
      | inr h ↦ absurd (omega arith)
    ]

and_true : (b c : Bool) → c ≡ true → b ≡ (b && c)
and_true true c h = sym h
and_true false c h = refl

and_false : (b c : Bool) → c ≡ false → false ≡ (b && c)
and_false true c h = sym h
and_false false c h = refl

pub rise_low : (cs : List Claim) (i n m : ℕ) (r : Bool) → i < length cs → ((c : Claim) → slice_get cs i ≡ Some c → m ≡ c.number) → m < n
    → r ≡ list_all (λ d. nat_lt d.number n) (take i cs) → r ≡ list_all (λ d. nat_lt d.number n) (take (i + 1) cs)
rise_low cs i n m r lt at low so = so ∙ and_true _ (nat_lt m n) (grind (arith, nat_tests)) ∙ sym (rise_step cs i n m lt at)

pub rise_high : (cs : List Claim) (i n m : ℕ) → i < length cs → ((c : Claim) → slice_get cs i ≡ Some c → m ≡ c.number) → n ≤ m
    → false ≡ list_all (λ d. nat_lt d.number n) (take (i + 1) cs)
rise_high cs i n m lt at high = and_false _ (nat_lt m n) (grind (arith, nat_tests)) ∙ sym (rise_step cs i n m lt at)
