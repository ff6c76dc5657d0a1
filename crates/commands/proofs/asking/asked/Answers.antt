use Rattle.std.proofs.Common.{sym, ◌∙◌}
use Rattle.commands.proofs.Words.{no_text, version_asks}
use Rattle.commands.proofs.asking.asked.Goals as goal

pub returns-then-not-is_asking-clause-text : goal.returns-then-not-is_asking-clause-text
returns-then-not-is_asking-clause-text c asks = no_text c.args.words.now (sym c.is_asking.ensures ∙ c.if-not-is_asking.true) asks

pub returns-then-not-is_asking-clause-version : goal.returns-then-not-is_asking-clause-version
returns-then-not-is_asking-clause-version c asks =
    no_text c.args.words.now (sym c.is_asking.ensures ∙ c.if-not-is_asking.true) (version_asks c.args.words.now asks)
