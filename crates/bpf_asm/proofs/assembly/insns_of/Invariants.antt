use Rattle.std.proofs.Common.{◌≡◌, ◌+◌, ◌≤◌, length, drop}
use Rattle.std.specs.Prelude.{IfSome}
use Rattle.std.specs.Str.Lines.{lines}
use Rattle.bpf_asm.specs.Assembly.{token_lines, instruction_index}
use Rattle.bpf_asm.proofs.Jumps.{AreInsns, NoneBeforePlace}
use Rattle.bpf_asm.proofs.assembly.insns_of.Given as goal

abbrev pub decreases-loop-line : goal.decreases-loop-line
decreases-loop-line l = length l.rest

abbrev pub invariant-loop-line : goal.invariant-loop-line
invariant-loop-line l = record {
  left : drop l.at (lines l.text) ≡ lines l.rest;
  within : l.at ≤ length (token_lines l.text);
  bound : l.at + length l.rest ≤ length l.text;
  here : l.place ≡ instruction_index (token_lines l.text) l.at;
  each : IfSome l.kept (λ v. AreInsns (token_lines l.text) l.place v.items);
  none : NoneBeforePlace (token_lines l.text) l.place;
}
