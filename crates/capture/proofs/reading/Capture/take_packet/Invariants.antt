-- What was taken so far are blocks without a packet.
use Rattle.capture.proofs.Passing.{Leads}
use Rattle.capture.proofs.reading.Capture.take_packet.Given as goal

abbrev pub invariant-blocks-2 : goal.invariant-blocks-2
invariant-blocks-2 g l = Leads l.initial.self (g.R.Read.remaining l.initial.reader) l.self (g.R.Read.remaining l.reader)
