-- The moments of a script's events, in milliseconds. A packet's time is given in milliseconds since 1970.
use Rattle.std.specs.Prelude.{ℕ, ◌-◌, min, max, Option, Some, None}

-- the last moment that a script may name
abbrev pub last_moment : ℕ
last_moment = 4294967295999

-- where moments begin, once a packet came: at the first packet's time, unless a beginning is given
abbrev pub start_after : Option ℕ → ℕ → Option ℕ
start_after None time = Some time
start_after (Some start) time = Some start

-- the milliseconds from the beginning to a time; 0 for a time before it
abbrev pub since : Option ℕ → ℕ → ℕ
since None time = 0
since (Some start) time = time - start

-- the moment of a packet, where the event before it was at `last`: never an earlier one than that, and never one past the last
abbrev pub moment_at : Option ℕ → ℕ → ℕ → ℕ
moment_at start last time = max (min (since start time) last_moment) last
