-- When the whole of an object is fetched of which parts were asked for: at the third request within a minute, if it is known to be short
-- enough to be stored. Times are in milliseconds, lengths in octets.
use Rattle.std.specs.Prelude.{ℕ, ◌-◌, nat_le, nat_lt, ◌&&◌, Bool, false, Option, Some, None}
use Rattle.http_rules.specs.declared.parts.PartRequests.{PartRequests}

-- whether a time is there, and less than a minute ago; one that is still to come counts as now
abbrev pub is_recent : ℕ → Option ℕ → Bool
is_recent now None = false
is_recent now (Some at) = nat_lt (now - at) 60000

-- whether a length is known, and within a limit
abbrev pub is_short : ℕ → Option ℕ → Bool
is_short limit None = false
is_short limit (Some length) = nat_le length limit

-- whether a request at this time is the third within a minute, and the whole is within a limit
abbrev pub is_third : ℕ → ℕ → PartRequests → Bool
is_third now limit requests = is_recent now requests.before_last && is_short limit requests.length

-- the requests with one more at this time
abbrev pub with_request : ℕ → PartRequests → PartRequests
with_request now requests = record { before_last = requests.last; last = Some now; length = requests.length }

-- the requests, where the length of the whole is this
abbrev pub with_length : ℕ → PartRequests → PartRequests
with_length length requests = record { before_last = requests.before_last; last = requests.last; length = Some length }
