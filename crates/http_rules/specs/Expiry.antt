-- Lifetimes that follow from the dates of a response (RFC 9111, sections 4.2.1, 4.2.2 and 5.3), in seconds since 1970. A field
-- with a date has one of the three formats of RFC 9110, section 5.6.7, in that case of letters; of a year with two digits 70 to 99
-- are 19xx.
use Rattle.std.specs.Prelude.{ℕ, ◌-◌, ◌/◌, min, List, codes, bytes_eq, nat_lt, Option, Some, None, option_map, option_and_then, unwrap_or, if◌then◌else◌}
use Rattle.std.specs.List.{list_all}
use Rattle.httpdate.specs.Date.{parse_secs}
use Rattle.http_rules.specs.Fields.{Field, first_value, values_of}

-- the date in the first field with this name, if it is one
abbrev pub date_in : List ℕ → List Field → Option ℕ
date_in name fields = option_and_then parse_secs (first_value name fields)

-- when a response was made: its Date, or the time of its receipt if it has no date there (RFC 9110, section 6.6.1)
abbrev pub date_of : List Field → ℕ → ℕ
date_of fields received = unwrap_or (date_in (codes "date") fields) received

-- the date of an Expires value; a value that is no date, such as "0", is a time in the past (RFC 9111, section 5.3)
abbrev pub date_or_past : List ℕ → ℕ
date_or_past value = unwrap_or (parse_secs value) 0

-- when a response expires, if it has an Expires field; fields that differ are a time in the past (RFC 9111, section 4.2.1)
abbrev pub expires_at : List Field → Option ℕ
expires_at fields =
    option_map (λ first. if list_all (bytes_eq first) (values_of (codes "expires") fields) then date_or_past first else 0)
    (first_value (codes "expires") fields)

-- Expires less Date, 0 for a response that expired before (RFC 9111, section 4.2.1)
abbrev pub expires_lifetime : List Field → ℕ → Option ℕ
expires_lifetime fields received = option_map (λ at. at - date_of fields received) (expires_at fields)

-- a tenth of the time from one second to a later one, and a day at most
abbrev pub tenth_between : ℕ → ℕ → Option ℕ
tenth_between modified date = if nat_lt modified date then Some (min ((date - modified) / 10) 86400) else None

-- the heuristic lifetime: a tenth of the time between Last-Modified and Date (RFC 9111, section 4.2.2)
abbrev pub heuristic_lifetime : List Field → ℕ → Option ℕ
heuristic_lifetime fields received =
    option_and_then (λ modified. tenth_between modified (date_of fields received)) (date_in (codes "last-modified") fields)
