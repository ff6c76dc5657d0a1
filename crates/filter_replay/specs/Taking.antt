-- What a packet adds to a script: a datagram that the cache received is one line, and any other packet none.
use Rattle.std.specs.Prelude.{ℕ, List, [], ◌++◌, codes, Option, Some, None}
use Rattle.capture.specs.Udp.{UdpFields}
use Rattle.filter_replay.specs.declared.part.Sockets.{Sockets}
use Rattle.filter_replay.specs.declared.moment.Clock.{Clock}
use Rattle.filter_replay.specs.declared.part.Part.{Part}
use Rattle.filter_replay.specs.declared.part.Part.TheVariants.{Received, Other}
use Rattle.filter_replay.specs.Line.{datagram_text}
use Rattle.filter_replay.specs.Moment.{moment_at, start_after}
use Rattle.filter_replay.specs.Part.{part_of}

-- the part of a packet, by the datagram in it
abbrev pub part_in : Sockets → Option UdpFields → Part
part_in sockets None = Other
part_in sockets (Some d) = part_of sockets d

-- the moment of a packet that came at this time
abbrev pub moment_by : Clock → ℕ → ℕ
moment_by clock time = moment_at (start_after clock.start time) clock.last time

-- the clock after a packet: the first one may tell where moments begin, and each datagram that was received has its moment
abbrev pub clock_by : Clock → ℕ → Part → Clock
clock_by clock time (Received socket) = record { start = start_after clock.start time; last = moment_by clock time }
clock_by clock time part = record clock { start = start_after clock.start time }

-- the lines of a packet
abbrev pub lines_by : Clock → ℕ → UdpFields → Part → List ℕ
lines_by clock time d (Received socket) = datagram_text socket d.from d.payload (moment_by clock time) ++ codes "\n"
lines_by clock time d part = []

abbrev pub lines_of : Sockets → Clock → ℕ → Option UdpFields → List ℕ
lines_of sockets clock time None = []
lines_of sockets clock time (Some d) = lines_by clock time d (part_of sockets d)
