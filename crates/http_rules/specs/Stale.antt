-- When a stored object may be served that is stale (RFC 9111, sections 4.2.4 and 5.2.1.2; RFC 5861). Times are in seconds.
use Rattle.std.specs.Prelude.{ℕ, ◌-◌, List, [], ◌∷◌, codes, nat_le, nat_lt, ◌==◌, not, ◌&&◌, ◌||◌, Bool, true, false, Option, Some, None, is_some, option_map, option_and_then, unwrap_or, if◌then◌else◌}
use Rattle.http_rules.specs.declared.stale.StaleUse.{StaleUse}
use Rattle.http_rules.specs.declared.stale.StaleUse.TheVariants.{InPlaceOfError, WhileValidated, Accepted}
use Rattle.node_terms.specs.declared.mode.Mode.{Mode}
use Rattle.node_terms.specs.declared.mode.Mode.TheVariants.{Shared, Cached, Private}
use Rattle.http_rules.specs.declared.stale.SourceEnd.{SourceEnd}
use Rattle.http_rules.specs.declared.stale.SourceEnd.TheVariants.{Answered, Unreached, Unread, TooLong, Unasked}
use Rattle.http_rules.specs.Fields.{Field}
use Rattle.http_rules.specs.Directives.{argument, argument_seconds, asks, has_unclosed}
use Rattle.http_rules.specs.Forbidding.{forbids}

-- whether a status is an error in whose place a stale object may be served (RFC 5861, section 4)
abbrev pub is_error : ℕ → Bool
is_error status = status == 500 || status == 502 || status == 503 || status == 504

-- whether a server with which a fetch has ended so is down: it has answered with an error, or not at all, or nothing that could be read
-- (RFC 5861, section 4). A response that is too long is one, and what was not asked for says nothing of its server
abbrev pub is_down : SourceEnd → Bool
is_down (Answered status) = is_error status
is_down Unreached = true
is_down Unread = true
is_down TooLong = false
is_down Unasked = false

-- whether something stale may take the place of what came of a fetch: only where an origin was asked, for all clients
abbrev pub takes_the_place : Bool → Mode → SourceEnd → Bool
takes_the_place is_origin Shared end = is_origin && is_down end
takes_the_place is_origin Cached end = false
takes_the_place is_origin Private end = false

-- whether a response with this status that is not kept says that what was kept before is no longer so: the origin has something else
-- there now, or nothing any more. Other errors and refusals, and a 304, say nothing of that.
abbrev pub supersedes : ℕ → Bool
supersedes status =
    (nat_le 200 status && (nat_lt status 400 && not (status == 304))) || status == 404 || status == 410

-- whether an object must not be served while it is stale (RFC 9111, section 4.2.4)
abbrev pub prohibits_stale : List Field → Bool
prohibits_stale fields =
    -- section 5.2.2.4
    forbids (codes "no-cache") fields
    -- section 5.2.2.2
    || forbids (codes "must-revalidate") fields
    -- section 5.2.2.8
    || forbids (codes "proxy-revalidate") fields
    -- section 5.2.2.10: it says what proxy-revalidate says
    || forbids (codes "s-maxage") fields
    -- any of them might be hidden by the quote
    || has_unclosed fields

-- the seconds of a directive of RFC 5861; one whose argument is no number allows nothing
abbrev pub window : List ℕ → List Field → Option ℕ
window name fields = option_and_then argument_seconds (argument name fields)

-- the operator's seconds: 0 allows nothing
abbrev pub operators_window : ℕ → Option ℕ
operators_window seconds = if nat_lt 0 seconds then Some seconds else None

-- whether an object that has been stale for so long is within a window: the window says for how long it may have been
abbrev pub is_within : ℕ → Option ℕ → Bool
is_within staleness None = false
is_within staleness (Some most) = nat_le staleness most

-- whether an object that has been stale for so long may be used for this: in place of an error by stale-if-error (RFC 5861, section 4)
-- or by the operator, while it is validated by stale-while-revalidate (RFC 5861, section 3), and where the client accepts it for so long,
-- whatever the object says (RFC 9111, section 5.2.1.2)
abbrev pub permits : StaleUse → ℕ → ℕ → List Field → Bool
permits InPlaceOfError staleness operators fields =
    is_within staleness (window (codes "stale-if-error") fields) || is_within staleness (operators_window operators)
permits WhileValidated staleness operators fields = is_within staleness (window (codes "stale-while-revalidate") fields)
permits (Accepted None) staleness operators fields = true
permits (Accepted (Some most)) staleness operators fields = nat_le staleness most

-- whether an object is stale and may be used for this. It came `stay` seconds ago and was fresh for `life` seconds from then on, so
-- that it has been stale for the difference.
abbrev pub may_serve_stale : StaleUse → ℕ → ℕ → ℕ → List Field → Bool
may_serve_stale occasion stay life operators fields =
    nat_le life stay && (not (prohibits_stale fields) && permits occasion (stay - life) operators fields)

-- whether there is a use for an object once it is stale
abbrev pub has_stale_use : ℕ → List Field → Bool
has_stale_use operators fields =
    not (prohibits_stale fields)
    && (is_some (window (codes "stale-if-error") fields) || is_some (operators_window operators)
    || is_some (window (codes "stale-while-revalidate") fields))

-- whether a request takes what is stale: with max-age it wants nothing stale (RFC 9111, section 5.2.1.1), and with min-fresh something
-- that is fresh for a time (section 5.2.1.3). A max-stale beside them, which would take that back (section 5.2.1.2), is not looked at
abbrev pub takes_stale : List Field → Bool
takes_stale request = not (asks (codes "max-age") request || asks (codes "min-fresh") request)

-- what is accepted by an argument of max-stale (RFC 9111, section 5.2.1.2): without one what has been stale for any time, otherwise for
-- at most so many seconds; an argument that is no number accepts nothing
abbrev pub accepted_by : List ℕ → Option StaleUse
accepted_by [] = Some (Accepted None)
accepted_by (c ∷ cs) = option_map (λ most. Accepted (Some most)) (argument_seconds (c ∷ cs))

-- what a request takes that is stale while it waits for nothing else: with max-stale what it accepts by that, otherwise what may be
-- given while it is validated
abbrev pub stale_use : List Field → Option StaleUse
stale_use request =
    if takes_stale request
    then unwrap_or (option_map accepted_by (argument (codes "max-stale") request)) (Some WhileValidated)
    else None
