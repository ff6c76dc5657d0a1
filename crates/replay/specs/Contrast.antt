-- How two filters differ in a datagram: one accepts what the other rejects, or they hand on different lengths of its payload.
use Rattle.std.specs.Prelude.{ℕ, ◌==◌, if◌then◌else◌, List, length}
use Rattle.bpf_check.specs.declared.insn.Insn.{Insn}
use Rattle.capture.specs.Udp.{UdpFields}
use Rattle.replay.specs.declared.contrast.Contrast.{Contrast}
use Rattle.replay.specs.declared.contrast.Contrast.TheVariants.{Same, FirstAlone, OtherAlone, Lengths}
use Rattle.replay.specs.Finding.{value_of, handed_on}

-- How two verdicts on a payload differ; 0 rejects it. Verdicts that hand on the same don't differ, whatever their numbers.
abbrev pub contrast_by : List ℕ → ℕ → ℕ → Contrast
contrast_by payload first other =
    if first == 0 then (if other == 0 then Same else OtherAlone)
    else if other == 0 then FirstAlone
    else if length (handed_on payload first) == length (handed_on payload other) then Same
    else Lengths

-- how the verdicts of two programs on a datagram differ
abbrev pub contrast_of : List Insn → List Insn → UdpFields → Contrast
contrast_of p q d = contrast_by d.payload (value_of p d) (value_of q d)
