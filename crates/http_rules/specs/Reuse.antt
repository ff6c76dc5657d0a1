-- What a request says about the use of stored responses (RFC 9111, section 5.2.1; Pragma by RFC 7234, section 5.4).
use Rattle.std.specs.Prelude.{ℕ, List, codes, nat_le, nat_lt, not, ◌&&◌, ◌||◌, Bool, true, false, Option, Some, None, option_map, unwrap_or}
use Rattle.std.specs.List.{list_any}
use Rattle.http_rules.specs.Fields.{Field, values_of, has_field}
use Rattle.http_rules.specs.Directives.{argument, argument_seconds, is_unclosed}
use Rattle.http_rules.specs.Forbidding.{forbids_in}

-- whether a Pragma value has no-cache, or may have it behind an unclosed double quote
abbrev pub may_have_no_cache : List ℕ → Bool
may_have_no_cache value = forbids_in (codes "no-cache") value || is_unclosed value

-- Pragma: no-cache counts in a request without a Cache-Control field (RFC 7234, section 5.4, which RFC 9111 leaves to caches)
abbrev pub asks_by_pragma : List Field → Bool
asks_by_pragma fields =
    not (has_field (codes "cache-control") fields) && list_any may_have_no_cache (values_of (codes "pragma") fields)

-- whether the seconds of a directive, if there is one, pass a test; an argument that is no number does not
abbrev pub is_met : (ℕ → Bool) → Option (List ℕ) → Bool
is_met test None = true
is_met test (Some text) = unwrap_or (option_map test (argument_seconds text)) false

-- max-age: an age of so many seconds at most (section 5.2.1.1)
abbrev pub is_young_enough : ℕ → List Field → Bool
is_young_enough age fields = is_met (λ most. nat_le age most) (argument (codes "max-age") fields)

-- min-fresh: fresh for so many more seconds at least (section 5.2.1.3)
abbrev pub is_fresh_enough : ℕ → List Field → Bool
is_fresh_enough life fields = is_met (λ least. nat_le least life) (argument (codes "min-fresh") fields)

-- whether a request accepts a stored response of this age, which stays fresh for so many seconds. One that is stale is not
-- accepted by these: Stale has what max-stale accepts (section 5.2.1.2).
abbrev pub accepts : ℕ → ℕ → List Field → Bool
accepts age life fields = nat_lt 0 life && (is_young_enough age fields && is_fresh_enough life fields)
