-- The buckets of a histogram of times, in microseconds, numbered from 0. As in Prometheus, a bucket's upper bound is inclusive
-- (`le`), and what is printed for a bucket counts all buckets up to it.
use Rattle.std.specs.Prelude.{ℕ, ◌+◌, ◌-◌, ◌^◌, ◌≤◌, ◌↔◌, List, sum, take, min}

-- The time's bucket is this one or an earlier one exactly if the time is at most the bound in the field's name, in seconds. The
-- bucket 14 has no bound.
pub record IsBucketOf (micros bucket : ℕ) : Type 0 where
  pub le_0_001 : (bucket ≤ 0) ↔ (micros ≤ 1000)
  pub le_0_0025 : (bucket ≤ 1) ↔ (micros ≤ 2500)
  pub le_0_005 : (bucket ≤ 2) ↔ (micros ≤ 5000)
  pub le_0_01 : (bucket ≤ 3) ↔ (micros ≤ 10000)
  pub le_0_025 : (bucket ≤ 4) ↔ (micros ≤ 25000)
  pub le_0_05 : (bucket ≤ 5) ↔ (micros ≤ 50000)
  pub le_0_1 : (bucket ≤ 6) ↔ (micros ≤ 100000)
  pub le_0_25 : (bucket ≤ 7) ↔ (micros ≤ 250000)
  pub le_0_5 : (bucket ≤ 8) ↔ (micros ≤ 500000)
  pub le_1 : (bucket ≤ 9) ↔ (micros ≤ 1000000)
  pub le_2_5 : (bucket ≤ 10) ↔ (micros ≤ 2500000)
  pub le_5 : (bucket ≤ 11) ↔ (micros ≤ 5000000)
  pub le_10 : (bucket ≤ 12) ↔ (micros ≤ 10000000)
  pub le_30 : (bucket ≤ 13) ↔ (micros ≤ 30000000)
  pub is_last : bucket ≤ 14

-- the sum of numbers, at most the largest number of 64 bits
abbrev pub capped_sum : List ℕ → ℕ
capped_sum counts = min (sum counts) (2 ^ 64 - 1)

-- how many times there were in the bucket and those before it
abbrev pub cumulated : List ℕ → ℕ → ℕ
cumulated counts bucket = capped_sum (take (bucket + 1) counts)
