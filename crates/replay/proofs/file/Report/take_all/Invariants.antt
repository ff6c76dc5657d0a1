-- The packets so far were taken, and their frames counted.
use Rattle.replay.proofs.Records.{Leads}
use Rattle.replay.proofs.file.Report.take_all.Given as goal

abbrev pub invariant-packets : goal.invariant-packets
invariant-packets g l =
    Leads l.question.program.now l.question.aim l.initial.capture (g.R.Read.remaining l.initial.reader) l.initial.self.tally l.capture (g.R.Read.remaining l.reader) l.self.tally
