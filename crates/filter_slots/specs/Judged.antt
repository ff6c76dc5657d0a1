-- A datagram judged in advance, with the optional programs of its socket's and its sender's slots.
use Rattle.std.specs.Prelude.{List, Option}
use Rattle.bpf_check.specs.declared.insn.Insn.{Insn}
use Rattle.filter_slots.specs.Datagram.{DatagramFields}
use Rattle.filter_slots.specs.Filters.{Filters}
use Rattle.filter_slots.specs.Verdict.{sockets_program, neighbours_program}

pub record JudgedFields : Type 0 where
  pub datagram : DatagramFields
  pub first : Option (List Insn)
  pub second : Option (List Insn)

-- the datagram, judged by the programs in force
abbrev pub judged_under : Filters → DatagramFields → JudgedFields
judged_under filters d = record {
  datagram = d;
  first = sockets_program filters d;
  second = neighbours_program filters d;
}
