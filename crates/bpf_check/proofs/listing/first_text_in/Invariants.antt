use Rattle.std.proofs.Common.{◌≡◌, ℕ, ◌+◌, ◌<◌, ◌≤◌, List, [], length, drop, Some}
use Rattle.std.specs.Prelude.{slice_get}
use Rattle.std.specs.Str.Lines.{lines}
use Rattle.bpf_check.specs.Listing.{words}
use Rattle.bpf_check.proofs.listing.first_text_in.Given as goal

abbrev pub decreases-loop-line : goal.decreases-loop-line
decreases-loop-line l = length l.rest

abbrev pub invariant-loop-line : goal.invariant-loop-line
invariant-loop-line l = record {
  left : drop l.at (lines l.text) ≡ lines l.rest;
  before : (n : ℕ) (line : List ℕ) → n < l.at → slice_get (lines l.text) n ≡ Some line → words line ≡ [];
  bound : l.at + length l.rest ≤ length l.text;
}
