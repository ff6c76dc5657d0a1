use Rattle.std.proofs.Common.{◌≡◌, ◌-◌, ◌^◌, sum, min, take}
use Rattle.traffic_figures.proofs.times.total.Given as goal

-- the sum of the counts so far
abbrev pub invariant-loop-count : goal.invariant-loop-count
invariant-loop-count l = l.sum ≡ min (sum (take l.count-index l.counts)) (2 ^ 64 - 1)
