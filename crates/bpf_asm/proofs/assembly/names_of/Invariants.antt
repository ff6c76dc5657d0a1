use Rattle.std.proofs.Common.{◌≡◌, ◌+◌, ◌*◌, ◌≤◌, length, drop}
use Rattle.std.specs.Str.Lines.{lines}
use Rattle.bpf_check.specs.Accepted.{most_insns}
use Rattle.bpf_asm.specs.Assembly.{token_lines, instruction_index}
use Rattle.bpf_asm.specs.Labels.{named}
use Rattle.bpf_asm.specs.Drafts.{IsTable, NoneBefore}
use Rattle.bpf_asm.proofs.assembly.names_of.Given as goal

abbrev pub decreases-loop-line : goal.decreases-loop-line
decreases-loop-line l = length l.rest

abbrev pub invariant-loop-line : goal.invariant-loop-line
invariant-loop-line l = record {
  text : l.names.text.now ≡ l.text;
  left : drop l.names.lines (lines l.text) ≡ lines l.rest;
  within : l.names.lines ≤ length (token_lines l.text);
  bound : l.names.lines + length l.rest ≤ length l.text;
  table : IsTable (token_lines l.text) l.names.lines (named l.names);
  here : l.place ≡ instruction_index (token_lines l.text) l.names.lines;
  short : l.place ≤ most_insns;
  none : NoneBefore (token_lines l.text) (3 * l.names.lines);
}
