-- The counts of a capture, as a function of the datagrams that its frames hold.
use Rattle.std.specs.Prelude.{ℕ, ◌+◌, ◌==◌, min, Bool, if◌then◌else◌, List, [], ◌∷◌, Option, Some, None}
use Rattle.bpf_check.specs.declared.insn.Insn.{Insn}
use Rattle.node_terms.specs.declared.ends.Socket.{Socket}
use Rattle.node_terms.specs.declared.ends.Socket.TheVariants.{Icp, Htcp}
use Rattle.capture.specs.Udp.{UdpFields}
use Rattle.replay.specs.declared.aim.Aim.{Aim}
use Rattle.replay.specs.declared.finding.Finding.{Finding}
use Rattle.replay.specs.declared.tally.Counts.{Counts}
use Rattle.replay.specs.declared.tally.Tally.{Tally}
use Rattle.replay.specs.Aim.{socket_of, is_complete}
use Rattle.replay.specs.Finding.{finding_of}
use Rattle.replay.specs.Frame.{Frame, datagram_in}

-- addition, at most 2^64 - 1
abbrev pub plus : ℕ → ℕ → ℕ
plus counter n = min (counter + n) 18446744073709551615

abbrev pub one_if : Bool → ℕ
one_if b = if b then 1 else 0

-- all counters at 0
abbrev pub no_counts : Counts
no_counts = record { datagrams = 0; rejected = 0; cut = 0; malformed = 0; unfiltered = 0 }

abbrev pub no_tally : Tally
no_tally = record { icp = no_counts; htcp = no_counts; partial = 0; others = 0 }

-- one datagram more, of which this was found
abbrev pub counted : Counts → Finding → Counts
counted counts f = record {
  datagrams = plus counts.datagrams 1;
  rejected = plus counts.rejected (one_if (f.value == 0));
  cut = plus counts.cut (one_if f.cut);
  malformed = plus counts.malformed (one_if f.malformed);
  unfiltered = plus counts.unfiltered (one_if f.unfiltered);
}

-- likewise, at a socket
abbrev pub counted_at : Socket → Tally → Finding → Tally
counted_at Icp tally f = record tally { icp = counted tally.icp f }
counted_at Htcp tally f = record tally { htcp = counted tally.htcp f }

-- one datagram more for a socket, or for none
abbrev pub arrived : List Insn → Tally → UdpFields → Option Socket → Tally
arrived p tally d None = record tally { others = plus tally.others 1 }
arrived p tally d (Some socket) =
    if is_complete d then counted_at socket tally (finding_of p socket d) else record tally { partial = plus tally.partial 1 }

-- one frame more: one without a datagram is another one
abbrev pub seen : List Insn → Aim → Tally → Option UdpFields → Tally
seen p aim tally None = record tally { others = plus tally.others 1 }
seen p aim tally (Some d) = arrived p tally d (socket_of aim d.to)

-- the counts after the frames, which come one after the other
unfoldable pub tally_from : List Insn → Aim → Tally → List Frame → Tally
tally_from p aim tally [] = tally
tally_from p aim tally (frame ∷ frames) = tally_from p aim (seen p aim tally (datagram_in frame)) frames

-- the counts of all frames
abbrev pub tally_of : List Insn → Aim → List Frame → Tally
tally_of p aim frames = tally_from p aim no_tally frames
