use Rattle.fair_use.specs.WaitingLine.{begun}
use Rattle.fair_use.proofs.Lines.{passed_by, last_of_all}
use Rattle.fair_use.proofs.laws.passing_law.Goals as goal

pub returns : goal.returns
returns c = record {
  passed = λ line who it place i le e. passed_by line (begun who) it place i le e;
  last = λ line who place i within last. last_of_all line (begun who) place i within last;
}
