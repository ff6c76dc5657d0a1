-- Blocks that are taken in two parts.
use Rattle.std.proofs.Common.{◌≡◌, ℕ, ◌≤◌, List, ◌++◌, Option, None, Some, sym, ap, ◌∙◌, subst, length, take, arith, take_all}
use Rattle.std.specs.Prelude.{IsTrue}
use Rattle.std.specs.Io.KnownBytes.{Consumes}
use Rattle.std.proofs.lemmas.List.{append_assoc}
use Rattle.capture.specs.declared.order.Order.{Order}
use Rattle.capture.specs.Block.{order_of, is_block, prepended, TakesBlock}

-- the rest behind a front
pub joined : (front rest whole y z : List ℕ) → whole ≡ front ++ rest → y ≡ rest ++ z → front ++ y ≡ whole ++ z
joined front rest whole y z is left = ap (λ l. front ++ l) left ∙ sym (append_assoc front rest z) ∙ ap (λ l. l ++ z) (sym is)

-- what was taken is the whole front
pub taken_front : (n : ℕ) (front x y : List ℕ) → length front ≡ 12 → 12 ≤ n → x ≡ take n front ++ y → front ++ y ≡ x
taken_front n front x y long all left = ap (λ l. l ++ y) (sym (take_all n front (omega (arith, long, all)))) ∙ sym left

pub takes_block : (order own : Order) (b c : Option (List ℕ)) (front rest block : List ℕ)
    → Consumes b c rest → block ≡ front ++ rest → order_of order block ≡ Some own → IsTrue (is_block own block)
    → TakesBlock order (prepended front b) c own block
takes_block order own None c front rest block taken is o w = tt
takes_block order own (Some y) None front rest block taken is o w = absurd taken
takes_block order own (Some y) (Some z) front rest block taken is o w = record {
  parts = joined front rest block y z is taken;
  own_is = o;
  whole = w;
}

pub behind_front : (order own : Order) (a b c : Option (List ℕ)) (n : ℕ) (front block : List ℕ) → length front ≡ 12 → 12 ≤ n
    → Consumes a b (take n front) → TakesBlock order (prepended front b) c own block → TakesBlock order a c own block
behind_front order own None b c n front block long all first then_ = tt
behind_front order own (Some x) None c n front block long all first then_ = absurd first
behind_front order own (Some x) (Some y) c n front block long all first then_ =
    subst (λ (l : List ℕ). TakesBlock order (Some l) c own block) (taken_front n front x y long all first) then_
