use Rattle.std.proofs.Common.{◌≡◌, ◌++◌, OnOk, subst}
use Rattle.node_core.specs.Happening.{Happening}
use Rattle.node_core.specs.State.{state_after, actions_at}
use Rattle.feed_script.specs.Printed.{actions_text}
use Rattle.feed_script.proofs.station.Station.receive.Goals as goal

pub returns-clause-shown : goal.returns-clause-shown
returns-clause-shown c =
    let P : Happening → Type 0 = λ h. OnOk c.take.result (c.take.new.out.items
    ≡ c.args.out.now.items ++ actions_text (state_after c.args.self.now.node h).plain.fetches.list (actions_at c.args.self.now.node h)) in
    subst P c.in_ok-event.ensures c.take.ensures.shown
