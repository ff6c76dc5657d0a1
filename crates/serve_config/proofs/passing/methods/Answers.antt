use Rattle.std.proofs.Common.{sym}
use Rattle.serde_json.specs.View.{view}
use Rattle.serve_config.proofs.Methods.{no_methods}
use Rattle.serve_config.proofs.passing.methods.Goals as goal

pub returns-in_default : goal.returns-in_default
returns-in_default c = no_methods (view c.args.value.now) c.new.result.items (sym c.in_default.ensures) c.new.ensures.items
