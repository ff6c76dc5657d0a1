-- The buffer keeps its length, and what it was filled with so far is what was taken.
use Rattle.std.proofs.Common.{◌≡◌, ◌≤◌, length, take}
use Rattle.std.specs.Io.KnownBytes.{Consumes}
use Rattle.capture.proofs.record.fill.Given as goal

abbrev pub invariant-turns : goal.invariant-turns
invariant-turns g l = (length l.octets ≡ length l.initial.octets) × (l.at ≤ length l.octets) × Consumes (g.R.Read.remaining l.initial.reader) (g.R.Read.remaining l.reader) (take l.at l.octets)
