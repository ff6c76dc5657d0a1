-- The operator's refresh rules: the freshness lifetime of responses from URLs that begin or end with a text.
use Rattle.std.specs.Prelude.{ℕ, List, find, nat_eq, Bool, Option, unwrap_or, if◌then◌else◌}
use Rattle.std.specs.List.{starts_with, ends_with}
use Rattle.http_rules.specs.declared.refresh.UrlPlace.{UrlPlace}
use Rattle.http_rules.specs.declared.refresh.UrlPlace.TheVariants.{Prefix, Suffix}
use Rattle.http_rules.specs.declared.refresh.RefreshRule.{RefreshRule}

-- whether a URL has the text in this place, octet for octet
abbrev pub fits : List ℕ → UrlPlace → Bool
fits url (Prefix text) = starts_with nat_eq url text.items
fits url (Suffix text) = ends_with nat_eq url text.items

-- the rule for a URL: the first that fits
abbrev pub first_rule : List ℕ → List RefreshRule → Option RefreshRule
first_rule url rules = find (λ rule. fits url rule.place) rules

-- the lifetime under a rule: its own seconds if it overrides or if the response states no lifetime, otherwise the stated one
abbrev pub ruled_lifetime : RefreshRule → Option ℕ → ℕ
ruled_lifetime rule stated = if rule.overrides then rule.seconds else unwrap_or stated rule.seconds
