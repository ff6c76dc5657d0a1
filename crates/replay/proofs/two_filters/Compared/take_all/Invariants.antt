-- The packets so far were taken, and the filters compared on their frames.
use Rattle.replay.proofs.Comparing.{Leads}
use Rattle.replay.proofs.two_filters.Compared.take_all.Given as goal

abbrev pub invariant-packets : goal.invariant-packets
invariant-packets g l =
    Leads l.pair.first.now l.pair.other.now l.pair.aim l.initial.capture (g.R.Read.remaining l.initial.reader) l.initial.self.comparison l.capture (g.R.Read.remaining l.reader) l.self.comparison
