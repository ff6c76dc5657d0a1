use Rattle.std.proofs.Common.{◌≡◌, ℕ, ◌+◌, ◌-◌, ◌^◌, ◌≤◌, min, List, length, sum, take, subst, ap, arith, take_all, take-take}
use Rattle.std.proofs.lemmas.List.Sums.{sum_by-take-le}
use Rattle.traffic_figures.specs.Buckets.{capped_sum}
use Rattle.traffic_figures.proofs.laws.buckets_add_up.Goals as goal

capped : (a b most : ℕ) → a ≤ b → min a most ≤ min b most
capped a b most e = omega arith

longer : (counts : List ℕ) (n : ℕ) → sum (take n counts) ≤ sum (take (n + 1) counts)
longer counts n =
    subst (λ front. sum front ≤ sum (take (n + 1) counts)) (take-take n (n + 1) counts (omega arith))
    (sum_by-take-le (λ x. x) (take (n + 1) counts) n)

whole : (counts : List ℕ) → length counts ≡ 15 → capped_sum (take 15 counts) ≡ capped_sum counts
whole counts e = ap capped_sum (take_all 15 counts (omega arith))

pub returns : goal.returns
returns c = record {
  all = λ counts e. whole counts e;
  rising = λ counts bucket. capped (sum (take (bucket + 1) counts)) (sum (take (bucket + 1 + 1) counts)) (2 ^ 64 - 1) (longer counts (bucket + 1));
}
