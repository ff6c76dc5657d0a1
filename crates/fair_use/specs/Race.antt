-- What is done next in a race of attempts to connect (RFC 8305, section 5), and what a race is after an attempt begins or ends.
use Rattle.std.specs.Prelude.{◌≡◌, ℕ, ◌+◌, ◌-◌, ◌/◌, ◌<◌, ◌≤◌, ◌⊎◌, ◌&&◌, nat_le, nat_lt, min, Bool, true, false, if◌then◌else◌}
use Rattle.fair_use.specs.declared.race.Race.{Race}
use Rattle.fair_use.specs.declared.race.Move.{Move}
use Rattle.fair_use.specs.declared.race.Move.TheVariants.{Begin, Replace, Wait, Failed, Late}

-- whether an attempt is left that has not begun
abbrev pub IsLeft : Race → Type 0
IsLeft race = race.begun < race.count

-- whether an attempt is under way
abbrev pub IsUnderWay : Race → Type 0
IsUnderWay race = race.ended < race.begun

-- whether the race goes on: not all attempts have ended, and its time is not over
abbrev pub GoesOn : Race → ℕ → Type 0
GoesOn race now = (race.ended < race.count) × (now < race.limit)

-- the end of a wait for this time, or for the end of the race where that comes before
abbrev pub IsUntil : Race → ℕ → ℕ → Type 0
IsUntil race time until = until ≡ min time race.limit

-- what is done now, given whether an attempt may begin beside another one
abbrev pub IsMove : Race → ℕ → Bool → Move → Type 0
IsMove race now is_free Begin =
    GoesOn race now × (IsLeft race × ((race.begun ≤ race.ended) ⊎ ((is_free ≡ true) × (race.due ≤ now))))
IsMove race now is_free Replace =
    GoesOn race now × (IsLeft race × (IsUnderWay race × ((is_free ≡ false) × (race.turn ≤ now))))
IsMove race now is_free (Wait until) =
    GoesOn race now × (((race.count ≤ race.begun) × (until ≡ race.limit))
    ⊎ ((IsLeft race × (IsUnderWay race × ((is_free ≡ true) × ((now < race.due) × IsUntil race race.due until))))
    ⊎ (IsLeft race × (IsUnderWay race × ((is_free ≡ false) × ((now < race.turn) × IsUntil race race.turn until))))))
IsMove race now is_free Failed = race.count ≤ race.ended
IsMove race now is_free Late = (race.ended < race.count) × (race.limit ≤ now)

-- whether an attempt would begin now beside another one
abbrev pub is_asked : Race → ℕ → Bool
is_asked race now =
    nat_lt now race.limit && (nat_lt race.begun race.count && (nat_lt race.ended race.begun && nat_le race.due now))

-- a race in which nothing has begun
abbrev pub start_of : ℕ → ℕ → Race
start_of count limit = record { count = count; begun = 0; ended = 0; due = 0; turn = limit; limit = limit }

-- when the turn of an attempt ends that begins now, with so many left behind it: all have equal parts of the time that is left
abbrev pub turn_of : ℕ → ℕ → ℕ → ℕ
turn_of now limit left = min now limit + (limit - min now limit) / (left + 1)

-- the race once the next attempt has begun: another one may begin 250 ms later
abbrev pub after_begun : Race → ℕ → Race
after_begun race now =
    if nat_lt race.begun race.count
    then (record race {
      begun = race.begun + 1;
      due = min now race.limit + 250;
      turn = turn_of now race.limit (race.count - (race.begun + 1));
    })
    else race

-- the race once an attempt under way has ended: the next one may begin at once
abbrev pub after_ended : Race → ℕ → Race
after_ended race now =
    if nat_lt race.ended race.begun then (record race { ended = race.ended + 1; due = min race.due now }) else race
