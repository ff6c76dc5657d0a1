-- What a shared cache keeps of a response to a GET request, and for how long (RFC 9111), for a cache that understands status 200,
-- stores nothing that it would have to validate before each use, and sends no fields of its clients but CDN-Loop with a shared request.
-- Of two Age fields the first counts. 44 is a comma.
use Rattle.std.specs.Prelude.{ℕ, ◌+◌, ◌-◌, min, max, List, [], ◌∷◌, take, codes, bytes_eq, nat_lt, ◌==◌, not, ◌&&◌, ◌||◌, Bool, true, false, Option, Some, None, option_map, option_and_then, unwrap_or, if◌then◌else◌}
use Rattle.std.specs.List.{position_or_len}
use Rattle.std.specs.Option.{option_or}
use Rattle.http_header.specs.Token.{lowercase}
use Rattle.node_terms.specs.declared.mode.Mode.{Mode}
use Rattle.node_terms.specs.declared.mode.Mode.TheVariants.{Shared, Cached, Private}
use Rattle.http_rules.specs.declared.freshness.Kept.{Kept}
use Rattle.http_rules.specs.declared.refresh.RefreshRule.{RefreshRule}
use Rattle.http_rules.specs.Fields.{Field, values_of, first_value, has_field}
use Rattle.http_rules.specs.Directives.{argument, argument_seconds, asks, has_unclosed}
use Rattle.http_rules.specs.Forbidding.{forbids}
use Rattle.http_rules.specs.Text.{trimmed, seconds}
use Rattle.http_rules.specs.Expiry.{date_of, expires_lifetime, heuristic_lifetime}
use Rattle.http_rules.specs.Refresh.{first_rule, ruled_lifetime}

-- no-store (section 5.2.2.5), which is ignored beside must-understand if the status is understood, as 200 is (section 5.2.2.3)
abbrev pub forbids_store : List Field → Bool
forbids_store fields = forbids (codes "no-store") fields && not (asks (codes "must-understand") fields)

-- whether another request might get another response, from the Vary values (section 4.1). An exception to that section: what came
-- without a content coding to a fetch that had no Accept-Encoding is given to every request, as nearly all accept it
abbrev pub selects : Bool → List (List ℕ) → Bool
selects is_coded [] = false
selects is_coded (names ∷ []) = not (bytes_eq (lowercase names) (codes "accept-encoding")) || is_coded
selects is_coded (first ∷ second ∷ others) = true

-- whether a response depends on fields of the request
abbrev pub varies : List Field → Bool
varies fields = selects (has_field (codes "content-encoding") fields) (values_of (codes "vary") fields)

-- whether a response must not be stored (section 3), or cannot be used again without validation
abbrev pub is_barred : List Field → Bool
is_barred fields =
    forbids_store fields
    -- section 5.2.2.7, with or without field names
    || forbids (codes "private") fields
    -- section 5.2.2.4: not to be used without validation
    || forbids (codes "no-cache") fields
    -- section 4.1
    || varies fields
    -- mostly for one client; stricter than section 7.3
    || has_field (codes "set-cookie") fields
    -- any of the directives might be hidden by the quote
    || has_unclosed fields

-- whether a response with this status may be stored
abbrev pub may_be_stored : ℕ → List Field → Bool
may_be_stored status fields = status == 200 && not (is_barred fields)

-- the lifetime of a directive; one whose argument is no number makes the response stale (section 4.2.1)
abbrev pub directive_lifetime : List ℕ → List Field → Option ℕ
directive_lifetime name fields = option_map (λ text. unwrap_or (argument_seconds text) 0) (argument name fields)

-- the lifetime that the response itself states (section 4.2.1): that of s-maxage, otherwise of max-age, otherwise of Expires
abbrev pub stated_lifetime : List Field → ℕ → Option ℕ
stated_lifetime fields received =
    option_or (directive_lifetime (codes "s-maxage") fields)
    (option_or (directive_lifetime (codes "max-age") fields) (expires_lifetime fields received))

-- the lifetime under the operator's rule, if there is one, otherwise what is stated, otherwise the heuristic one
abbrev pub chosen_lifetime : Option ℕ → Option ℕ → Option RefreshRule → Option ℕ
chosen_lifetime stated heuristic None = option_or stated heuristic
chosen_lifetime stated heuristic (Some rule) = Some (ruled_lifetime rule stated)

-- the freshness lifetime, capped at 2,147,483,648 (section 1.2.2)
abbrev pub freshness_lifetime : List ℕ → List Field → ℕ → List RefreshRule → Option ℕ
freshness_lifetime url fields received rules =
    option_map (λ seconds. min seconds 2147483648)
    (chosen_lifetime (stated_lifetime fields received) (heuristic_lifetime fields received) (first_rule url rules))

-- the time since the response was made, by its Date (section 4.2.3)
abbrev pub apparent_age : List Field → ℕ → ℕ
apparent_age fields received = received - date_of fields received

-- the time from the request to the response (section 4.2.3)
abbrev pub response_delay : ℕ → ℕ → ℕ
response_delay requested received = received - requested

-- the first member of a list, without surrounding white space
abbrev pub first_member : List ℕ → List ℕ
first_member value = trimmed (take (position_or_len (λ c. c == 44) value) value)

-- the seconds of the Age field: those of its first member where it is a list; 0 if that is no number, or if there is none (section 5.1)
abbrev pub age_value : List Field → ℕ
age_value fields = unwrap_or (option_and_then (λ value. seconds (first_member value)) (first_value (codes "age") fields)) 0

-- the Age field, and the time that the response may have been on its way (section 4.2.3)
abbrev pub corrected_age_value : List Field → ℕ → ℕ → ℕ
corrected_age_value fields requested received = age_value fields + response_delay requested received

-- the age of a response when it was received (section 4.2.3), capped at 2,147,483,648 (section 1.2.2)
abbrev pub corrected_initial_age : List Field → ℕ → ℕ → ℕ
corrected_initial_age fields requested received =
    min (max (apparent_age fields received) (corrected_age_value fields requested received)) 2147483648

-- a response is fresh while its age is less than its lifetime (section 4.2)
abbrev pub kept_for : ℕ → Option ℕ → Option Kept
kept_for age None = None
kept_for age (Some lifetime) = if nat_lt age lifetime then Some (record { age = age; life = lifetime - age }) else None

-- what is kept of a response to a request of this mode for this URL, if anything: nothing of what is fetched for one request alone,
-- even if that only asked to have what is stored confirmed
abbrev pub kept_of : Mode → List ℕ → ℕ → List Field → ℕ → ℕ → List RefreshRule → Option Kept
kept_of Shared url status fields requested received rules =
    if may_be_stored status fields
    then kept_for (corrected_initial_age fields requested received) (freshness_lifetime url fields received rules)
    else None
kept_of Cached url status fields requested received rules = None
kept_of Private url status fields requested received rules = None
