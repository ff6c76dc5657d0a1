use Rattle.std.proofs.Common.{◌≡◌, ℕ, ◌+◌, ◌<◌, ◌≤◌, [], ◌∷◌, length, drop, Some}
use Rattle.std.specs.Prelude.{slice_get, IfSome}
use Rattle.std.specs.Str.Lines.{lines}
use Rattle.bpf_check.specs.declared.insn.Insn.{Insn}
use Rattle.bpf_check.specs.Insn.{InRange}
use Rattle.bpf_check.specs.Accepted.{most_insns}
use Rattle.bpf_check.specs.Listing.{SaysAt, fields, NoneBefore}
use Rattle.bpf_check.proofs.listing.read.Given as goal

abbrev pub invariant-loop-place : goal.invariant-loop-place
invariant-loop-place l = record {
  counted : SaysAt (lines l.text) 0 (l.count ∷ []);
  short : l.count ≤ most_insns;
  left : drop (l.place + 1) (lines l.text) ≡ lines l.rest;
  inside : l.place < length (lines l.text);
  bound : l.place + 1 + length l.rest ≤ length l.text;
  each : IfSome l.kept (λ v. (length v.items ≡ l.place) × ((place : ℕ) (i : Insn) → slice_get v.items place ≡ Some i → SaysAt (lines l.text) (place + 1) (fields i) × InRange i));
  none : NoneBefore (lines l.text) (l.place + 2);
}
