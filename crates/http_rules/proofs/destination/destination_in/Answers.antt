use Rattle.std.proofs.Common.{sym, ◌∙◌}
use Rattle.http_rules.proofs.Destinations.{made}
use Rattle.http_rules.proofs.destination.destination_in.Goals as goal

pub returns-in-Some : goal.returns-in-Some
returns-in-Some c =
    record {
      leads = made c.args.key.now c.split_at.result.1.now c.split_at-2.result.0.now c.split_at-2.result.1.now c.split_at-3.result.0.now
          c.split_at-3.result.1.now c.target_of.result.now c.in-Some.port c.authority_len.result c.name_len.result c.requires.begins
          c.split_at.ensures.back c.authority_len.ensures.value c.split_at-2.ensures.front c.split_at-2.ensures.back (sym c.is_rooted.ensures ∙ c.if-not-is_rooted.false)
          c.split_at-3.ensures.front c.split_at-3.ensures.back c.name_len.ensures.bare (sym c.in-Some.ensures) c.target_of.ensures;
    }
