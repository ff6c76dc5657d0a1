-- How long a response may be stored, from the mode of its request, its status and its header fields as received.
use Rattle.std.specs.Prelude.{ℕ, ◌-◌, List, codes, nat_lt, ◌==◌, not, ◌&&◌, ◌||◌, Bool, Option, Some, None, unwrap_or, option_and_then, if◌then◌else◌}
use Rattle.node_terms.specs.declared.mode.Mode.{Mode}
use Rattle.node_terms.specs.declared.mode.Mode.TheVariants.{Shared, Cached, Private}
use Rattle.http_rules.specs.Fields.{Field, first_value, has_field}
use Rattle.http_rules.specs.Directives.{argument, argument_seconds, asks, has_unclosed}
use Rattle.http_rules.specs.Text.{seconds}

-- the age of a response in seconds when it was received: the first Age field, or 0 if it is missing or not a number
abbrev pub age_of : List Field → ℕ
age_of fields = unwrap_or (option_and_then seconds (first_value (codes "age") fields)) 0

-- the seconds of the first of two arguments that is present
abbrev pub first_seconds : Option (List ℕ) → Option (List ℕ) → Option ℕ
first_seconds (Some shared) _ = argument_seconds shared
first_seconds None (Some own) = argument_seconds own
first_seconds None None = None

-- the freshness lifetime in seconds: s-maxage if present, or else max-age
abbrev pub lifetime : List Field → Option ℕ
lifetime fields = first_seconds (argument (codes "s-maxage") fields) (argument (codes "max-age") fields)

-- whether a shared cache must not store a response, or a directive that forbids it might be hidden by an unclosed quote
abbrev pub is_forbidden : List Field → Bool
is_forbidden fields =
    asks (codes "no-store") fields || asks (codes "no-cache") fields || asks (codes "private") fields
    || has_field (codes "vary") fields || has_field (codes "set-cookie") fields || has_unclosed fields

-- the remaining lifetime at this age, if any
abbrev pub left_of : Option ℕ → ℕ → Option ℕ
left_of None age = None
left_of (Some seconds) age = if nat_lt age seconds then Some (seconds - age) else None

-- the number of seconds for which a response may be stored, if it may be
abbrev pub life_of : Mode → ℕ → List Field → Option ℕ
life_of Shared status fields =
    if status == 200 && not (is_forbidden fields) then left_of (lifetime fields) (age_of fields) else None
life_of Cached status fields = None
life_of Private status fields = None
