use Rattle.std.proofs.Common.{◌≡◌, ◌-◌, drop}
use Rattle.std.specs.Str.Lines.{lines}
use Rattle.bpf_asm.specs.Assembly.{token_lines, instruction_index}
use Rattle.bpf_asm.specs.Labels.{found_from, found_in}
use Rattle.bpf_asm.proofs.labels.place_in_text.Given as goal

abbrev pub invariant-loop : goal.invariant-loop
invariant-loop l = record {
  left : drop l.counter (lines l.text) ≡ lines l.rest;
  here : l.place ≡ instruction_index (token_lines l.text) l.counter;
  same : found_from l.place (token_lines l.rest) (l.lines - l.counter) l.label ≡ found_in (token_lines l.text) l.lines l.label;
}
