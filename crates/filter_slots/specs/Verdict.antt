-- The verdict in force on a datagram. The program of its socket's slot judges the whole packet; the program of its sender's
-- slot, if the sender is a neighbour, judges what the first lets through.
use Rattle.std.specs.Prelude.{ℕ, ◌+◌, min, List, Option, Some, None}
use Rattle.bpf_check.specs.declared.insn.Insn.{Insn}
use Rattle.bpf_run.specs.Packet.{filter_packet}
use Rattle.bpf_run.specs.Verdict.{verdict_of, steps_of}
use Rattle.filter_slots.specs.declared.slot.Slot.TheVariants as slots
use Rattle.filter_slots.specs.Cut.{cut_of}
use Rattle.filter_slots.specs.Datagram.{DatagramFields}
use Rattle.filter_slots.specs.Filters.{Filters, slot, program_for}

-- the verdict of an optional program on a datagram; no program lets the whole packet through
abbrev pub verdict_by : DatagramFields → Option (List Insn) → ℕ
verdict_by d None = 4294967295
verdict_by d (Some program) = verdict_of program (filter_packet d.from d.to d.payload)

-- the number of instructions executed
abbrev pub steps_by : DatagramFields → Option (List Insn) → ℕ
steps_by d None = 0
steps_by d (Some program) = steps_of program (filter_packet d.from d.to d.payload)

-- the datagram, its payload truncated by a verdict
abbrev pub cut_to : DatagramFields → ℕ → DatagramFields
cut_to d value = record d { payload = cut_of d.payload value }

-- the verdict of two programs: the smaller of the first one's verdict, and the second one's on what the first lets through.
-- It is 0 if either is 0.
abbrev pub verdict_by_both : DatagramFields → Option (List Insn) → Option (List Insn) → ℕ
verdict_by_both d first second = min (verdict_by d first) (verdict_by (cut_to d (verdict_by d first)) second)

-- the steps of both; the second program runs even if the first lets nothing through
abbrev pub steps_by_both : DatagramFields → Option (List Insn) → Option (List Insn) → ℕ
steps_by_both d first second = steps_by d first + steps_by (cut_to d (verdict_by d first)) second

-- the program of the datagram's socket
abbrev pub sockets_program : Filters → DatagramFields → Option (List Insn)
sockets_program filters d = slot filters (slots.Socket d.socket)

-- the program of the neighbour that sent the datagram
abbrev pub neighbours_program : Filters → DatagramFields → Option (List Insn)
neighbours_program filters d = program_for filters.neighbours d.socket d.from

-- the value of the verdict in force
abbrev pub verdict_in_force : Filters → DatagramFields → ℕ
verdict_in_force filters d = verdict_by_both d (sockets_program filters d) (neighbours_program filters d)

-- the steps of the verdict in force
abbrev pub steps_in_force : Filters → DatagramFields → ℕ
steps_in_force filters d = steps_by_both d (sockets_program filters d) (neighbours_program filters d)
