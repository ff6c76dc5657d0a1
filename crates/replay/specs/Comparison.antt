-- The counts of two filters over one capture, as a function of the datagrams that its frames hold.
use Rattle.std.specs.Prelude.{◌≡◌, ℕ, if◌then◌else◌, List, [], ◌∷◌, Option, Some, None}
use Rattle.bpf_check.specs.declared.insn.Insn.{Insn}
use Rattle.node_terms.specs.declared.ends.Socket.{Socket}
use Rattle.node_terms.specs.declared.ends.Socket.TheVariants.{Icp, Htcp}
use Rattle.capture.specs.Packet.{SoFar}
use Rattle.capture.specs.Start.{IsStart}
use Rattle.capture.specs.Udp.{UdpFields}
use Rattle.replay.specs.declared.aim.Aim.{Aim}
use Rattle.replay.specs.declared.contrast.Contrast.{Contrast}
use Rattle.replay.specs.declared.contrast.Contrast.TheVariants.{Same, FirstAlone, OtherAlone, Lengths}
use Rattle.replay.specs.declared.contrast.Differences.{Differences}
use Rattle.replay.specs.declared.contrast.Comparison.{Comparison}
use Rattle.replay.specs.Aim.{socket_of, is_complete}
use Rattle.replay.specs.Contrast.{contrast_of}
use Rattle.replay.specs.File.{AreFrames}
use Rattle.replay.specs.Frame.{Frame, datagram_in}
use Rattle.replay.specs.Tally.{plus}

-- all counters at 0
abbrev pub no_differences : Differences
no_differences = record { datagrams = 0; first_alone = 0; other_alone = 0; lengths = 0 }

abbrev pub no_comparison : Comparison
no_comparison = record { icp = no_differences; htcp = no_differences; partial = 0; others = 0 }

-- one datagram more, in which the filters differ so
abbrev pub differing : Differences → Contrast → Differences
differing counts Same = record counts { datagrams = plus counts.datagrams 1 }
differing counts FirstAlone = record counts { datagrams = plus counts.datagrams 1; first_alone = plus counts.first_alone 1 }
differing counts OtherAlone = record counts { datagrams = plus counts.datagrams 1; other_alone = plus counts.other_alone 1 }
differing counts Lengths = record counts { datagrams = plus counts.datagrams 1; lengths = plus counts.lengths 1 }

-- likewise, at a socket
abbrev pub differing_at : Socket → Comparison → Contrast → Comparison
differing_at Icp counts contrast = record counts { icp = differing counts.icp contrast }
differing_at Htcp counts contrast = record counts { htcp = differing counts.htcp contrast }

-- the counts of two sockets together
abbrev pub together : Differences → Differences → Differences
together a b = record {
  datagrams = plus a.datagrams b.datagrams;
  first_alone = plus a.first_alone b.first_alone;
  other_alone = plus a.other_alone b.other_alone;
  lengths = plus a.lengths b.lengths;
}

-- one datagram more for a socket, or for none
abbrev pub came : List Insn → List Insn → Comparison → UdpFields → Option Socket → Comparison
came p q counts d None = record counts { others = plus counts.others 1 }
came p q counts d (Some socket) =
    if is_complete d then differing_at socket counts (contrast_of p q d) else record counts { partial = plus counts.partial 1 }

-- one frame more: one without a datagram is another one
abbrev pub met : List Insn → List Insn → Aim → Comparison → Option UdpFields → Comparison
met p q aim counts None = record counts { others = plus counts.others 1 }
met p q aim counts (Some d) = came p q counts d (socket_of aim d.to)

-- the counts after the frames, which come one after the other
unfoldable pub comparison_from : List Insn → List Insn → Aim → Comparison → List Frame → Comparison
comparison_from p q aim counts [] = counts
comparison_from p q aim counts (frame ∷ frames) = comparison_from p q aim (met p q aim counts (datagram_in frame)) frames

-- comparing on the frames in the octets, where so much of the file was read, leads from the old counts to the new ones
pub record AreCompared (p q : List Insn) (aim : Aim) (so_far : SoFar) (octets : List ℕ) (old new : Comparison) : Type 0 where
  pub frames : List Frame
  pub are_frames : AreFrames frames so_far octets
  pub counts : new ≡ comparison_from p q aim old frames

-- the octets are a whole file, its start and packets, on whose frames the two filters compare so
pub record IsComparisonOf (p q : List Insn) (aim : Aim) (octets : List ℕ) (counts : Comparison) : Type 0 where
  pub start : SoFar
  pub packets : List ℕ
  pub is_start : IsStart octets start packets
  pub frames : List Frame
  pub are_frames : AreFrames frames start packets
  pub counted : counts ≡ comparison_from p q aim no_comparison frames
