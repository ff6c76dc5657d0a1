-- How a request is answered in the profile rfc9111, from what it says and from what is stored under its URL.
use Rattle.std.specs.Prelude.{ℕ, List, codes, bytes_eq, not, ◌&&◌, ◌||◌, Bool, false, Option, Some, None, is_some, option_and_then, Result, Ok, Err, if◌then◌else◌}
use Rattle.node_terms.specs.declared.mode.Mode.{Mode}
use Rattle.node_terms.specs.declared.mode.Mode.TheVariants.{Shared, Cached, Private}
use Rattle.http_rules.specs.declared.choice.Stored.{Stored}
use Rattle.http_rules.specs.Fields.{Field, has_field}
use Rattle.http_rules.specs.Directives.{asks, has_unclosed}
use Rattle.http_rules.specs.Forbidding.{forbids}
use Rattle.http_rules.specs.Ranges.{range_of}
use Rattle.http_rules.specs.Reuse.{accepts, asks_by_pragma}
use Rattle.http_rules.specs.Conditions.{is_for_origin}
use Rattle.http_rules.specs.Validators.{only_value}

-- requests that nothing stored answers: those with credentials, those that do not want it, and those that the origin has to judge
abbrev pub is_own : List Field → Bool
is_own fields =
    has_field (codes "authorization") fields || has_field (codes "cookie") fields
    || forbids (codes "no-store") fields || (forbids (codes "no-cache") fields || has_unclosed fields)
    || asks_by_pragma fields || is_for_origin fields

-- whether what is stored is there, and accepted
abbrev pub has_accepted : List Field → Option Stored → Bool
has_accepted fields None = false
has_accepted fields (Some stored) = accepts stored.age stored.life fields

-- a request that is fetched for alone: HEAD is not fetched
abbrev pub alone : Bool → Result Mode ℕ
alone is_get = if is_get then Ok Private else Err 501

-- a request that others may share, where this is stored. Where nothing is, all that share a fetch get the whole of it: so a range
-- is fetched alone.
abbrev pub shared : Bool → List Field → Option Stored → Result Mode ℕ
shared is_get fields (Some stored) = if accepts stored.age stored.life fields then Ok Shared else alone is_get
shared is_get fields None = if is_get && not (has_field (codes "range") fields) then Ok Shared else alone is_get

-- how a request is answered, or the status code of its refusal; the first case that applies counts
abbrev pub chosen : List ℕ → List Field → Option Stored → Result Mode ℕ
chosen method fields stored =
    if not (bytes_eq method (codes "GET")) && not (bytes_eq method (codes "HEAD")) then Err 501
    else if asks (codes "only-if-cached") fields && (is_own fields || not (has_accepted fields stored)) then Err 504
    else if asks (codes "only-if-cached") fields then Ok Cached
    else if is_own fields then alone (bytes_eq method (codes "GET"))
    else shared (bytes_eq method (codes "GET")) fields stored

-- whether a request asks for a single range
abbrev pub has_single_range : List Field → Bool
has_single_range fields = is_some (option_and_then range_of (only_value (codes "range") fields))

-- whether nothing but a single range keeps a GET for which nothing is stored from sharing a fetch: it is neither one for the store
-- alone, nor one that is fetched for alone in any case, nor one whose range holds only for what it has a part of
abbrev pub is_for_a_part : List Field → Bool
is_for_a_part fields =
    not (asks (codes "only-if-cached") fields)
    && (not (is_own fields) && (not (has_field (codes "if-range") fields) && has_single_range fields))
