use Rattle.std.proofs.Common.{◌≡◌, ◌∙◌}
use Rattle.http_rules.specs.Targets.{text_of}
use Rattle.http_rules.proofs.KeyTexts.{key_text}
use Rattle.http_rules.proofs.target.key_of_plain.Goals as goal

pub returns-clause-memory : goal.returns-clause-memory
returns-clause-memory c =
    let bad = rw c.in-Err-NotKey-default.field-0-0-is at c.in-Err-NotKey-default.ensures.fault in
    let same : c.in_ok-octets.octets.items ≡ text_of c.args.url.now = c.in_ok-octets.ensures.items ∙ c.text_of.ensures in
    absurd (bad (rw same (key_text c.args.url.now c.requires.plain c.requires.short)))
