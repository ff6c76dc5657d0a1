use Rattle.http_traffic.proofs.Judging.{left_judged}
use Rattle.http_traffic.proofs.addresses.AdmittedAddresses.take_out.Goals as goal

pub returns : goal.returns
returns c = record { judged = λ by_rules h. left_judged _ _ by_rules c.args.self.now.list.items c.retain.new.self.items c.retain.ensures.filtered h }
