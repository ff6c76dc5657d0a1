use Rattle.feed_script.proofs.ScriptLemmas.{text_ahead-fresh}
use Rattle.feed_script.proofs.laws.text_law.Goals as goal

pub returns : goal.returns
returns c = text_ahead-fresh (record { taken = c.step_law.ensures.taken; more = c.append_law.ensures.one; sent = c.step_law.ensures.sent })
