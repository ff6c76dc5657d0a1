use Rattle.plain_node.specs.Settings.{setup_fault, setup_of}
use Rattle.feed_script.proofs.PhaseLemmas.{table-some, limits-some}
use Rattle.feed_script.proofs.phase.started.Goals as goal

pub returns-in-Err-Table : goal.returns-in-Err-Table
returns-in-Err-Table c =
    let found = setup_fault (setup_of c.args.config) in
    record { node = tt; own = tt; faultless = tt; wrong = λ e. table-some found c.in-Err-Table.field-0 _ c.in-Err-Table.field-0-is c.in-Err-Table.ensures.fault }

pub returns-in-Err-Limits : goal.returns-in-Err-Limits
returns-in-Err-Limits c =
    let found = setup_fault (setup_of c.args.config) in
    record { node = tt; own = tt; faultless = tt; wrong = λ e. limits-some found c.in-Err-Limits.field-0 c.in-Err-Limits.field-0-is c.in-Err-Limits.ensures.fault }
