-- Room for octets that several share. Each takes some as it needs them, and gives all of it back at its end. Who holds some, or waits for some,
-- stands in the order in which they began.
use Rattle.std.specs.Prelude.{◌≡◌, ℕ, zero, suc, ◌+◌, ◌/◌, ◌<◌, ◌≤◌, ⊤, Bool, true, false, not, ◌&&◌, ◌||◌, nat_eq, nat_lt, nat_le, List, [], ◌∷◌, ◌++◌, Option, Some, None, IfSome, MatchOption, max, min, if◌then◌else◌, slice_get, length}
use Rattle.std.specs.Option.{option_eq, option_map_or}
use Rattle.std.specs.List.{list_any, slice_set}
use Rattle.fair_use.specs.declared.room.Holder.{Holder}
use Rattle.fair_use.specs.declared.room.Taken.{Taken}
use Rattle.fair_use.specs.declared.room.Taken.TheVariants.{Given, Waits, Beyond}

-- what contracts see of a room: how many octets there are, how many have entered so far (no more are counted than 64 bits hold), and who holds
-- some or waits, those that began first before others
pub record Shared : Type 0 where
  pub size : ℕ
  pub entered : ℕ
  pub holders : List Holder

-- the octets that all of these hold
abbrev pub held_of : List Holder → ℕ
held_of [] = 0
held_of (holder ∷ holders) = holder.held + held_of holders

-- each of these holds no more than it ever takes, and for all that it ever takes there is room beside what those hold that began after it
abbrev pub IsKept : ℕ → List Holder → Type 0
IsKept size [] = ⊤
IsKept size (holder ∷ holders) = (holder.held ≤ holder.most) × (holder.most + held_of holders ≤ size) × IsKept size holders

-- each of these has a number below this one
abbrev pub AreBelow : ℕ → List Holder → Type 0
AreBelow entered [] = ⊤
AreBelow entered (holder ∷ holders) = (holder.number < entered) × AreBelow entered holders

-- so who enters next has a number of its own, unless the numbers have run out
abbrev pub IsNumbered : ℕ → List Holder → Type 0
IsNumbered entered holders = entered < 18446744073709551615 → AreBelow entered holders

-- whether so many octets more for the one at this place leave each that began before it room for all that it ever takes
abbrev pub leaves_room : ℕ → ℕ → ℕ → List Holder → Bool
leaves_room size octets place [] = true
leaves_room size octets zero (holder ∷ holders) = true
leaves_room size octets (suc place) (holder ∷ holders) =
    nat_le (holder.most + held_of holders + octets) size && leaves_room size octets place holders

-- the octets that those hold that a client of this address began
abbrev pub held_for : Option ℕ → List Holder → ℕ
held_for asker [] = 0
held_for asker (holder ∷ holders) = (if option_eq nat_eq holder.asker asker then holder.held else 0) + held_for asker holders

-- the octets that those hold that come from the server of this address
abbrev pub held_from : ℕ → List Holder → ℕ
held_from server [] = 0
held_from server (holder ∷ holders) = (if nat_eq holder.server server then holder.held else 0) + held_from server holders

-- whether one waits that a client of another address began
abbrev pub other_asker_waits : Option ℕ → List Holder → Bool
other_asker_waits asker holders = list_any (λ holder. nat_lt 0 holder.wanted && not (option_eq nat_eq holder.asker asker)) holders

-- whether one waits that comes from another server
abbrev pub other_server_waits : ℕ → List Holder → Bool
other_server_waits server holders = list_any (λ holder. nat_lt 0 holder.wanted && not (nat_eq holder.server server)) holders

-- whether so many octets more leave the address of its client within a quarter of the room, or no one waits that another address began
abbrev pub is_askers_share : ℕ → Holder → ℕ → List Holder → Bool
is_askers_share size holder octets holders =
    not (other_asker_waits holder.asker holders) || nat_le (held_for holder.asker holders + octets) (size / 4)

-- whether so many octets more leave its server within a half of the room, or no one waits that comes from another server
abbrev pub is_servers_share : ℕ → Holder → ℕ → List Holder → Bool
is_servers_share size holder octets holders =
    not (other_server_waits holder.server holders) || nat_le (held_from holder.server holders + octets) (size / 2)

-- whether so many octets more are no more than one address and one server may have while others wait
abbrev pub is_fair : ℕ → Holder → ℕ → List Holder → Bool
is_fair size holder octets holders = is_askers_share size holder octets holders && is_servers_share size holder octets holders

-- whether the one at this place may have so many octets more now: the one that began first always, another where it leaves those that began
-- before it their room, and is fair
abbrev pub may_have : ℕ → ℕ → Holder → ℕ → List Holder → Bool
may_have size place holder octets holders =
    nat_eq place 0 || (leaves_room size octets place holders && is_fair size holder octets holders)

-- whether this one, at this place, waits and may have what it waits for
abbrev pub is_next : ℕ → ℕ → Holder → List Holder → Bool
is_next size place holder holders = nat_lt 0 holder.wanted && may_have size place holder holder.wanted holders

-- the place of the first one with this number, where the first of these is at a place
abbrev pub place_from : ℕ → ℕ → List Holder → Option ℕ
place_from place number [] = None
place_from place number (holder ∷ holders) =
    if nat_eq holder.number number then Some place else place_from (place + 1) number holders

-- the place of the first one with this number
abbrev pub place_of : ℕ → List Holder → Option ℕ
place_of number holders = place_from 0 number holders

-- the last turn at which one of these began to wait
abbrev pub last_turn : List Holder → ℕ
last_turn [] = 0
last_turn (holder ∷ holders) = max holder.turn (last_turn holders)

-- the octets that these wait for, or the most that a number of 64 bits can tell
abbrev pub wanted_of : List Holder → ℕ
wanted_of [] = 0
wanted_of (holder ∷ holders) = min (holder.wanted + wanted_of holders) 18446744073709551615

-- since when this one waits: as it does, or behind all others
abbrev pub turn_of : Holder → List Holder → ℕ
turn_of holder holders = if nat_eq holder.wanted 0 then min (last_turn holders + 1) 18446744073709551615 else holder.turn

-- the room once the one at a place holds so many octets more; it waits no longer
abbrev pub after_giving : Shared → ℕ → Holder → ℕ → Shared
after_giving room place holder octets =
    record room { holders = slice_set room.holders place (record holder { held = holder.held + octets; wanted = 0 }) }

-- the room once the one at a place waits for so many octets
abbrev pub after_waiting : Shared → ℕ → Holder → ℕ → Shared
after_waiting room place holder octets =
    record room { holders = slice_set room.holders place (record holder { wanted = octets; turn = turn_of holder room.holders }) }

-- what becomes of octets that this one, at this place, asks for
abbrev pub taken_of : Shared → ℕ → Holder → ℕ → Taken
taken_of room place holder octets =
    if nat_lt holder.most (holder.held + octets) then Beyond
    else if may_have room.size place holder octets room.holders then Given else Waits

-- the room once this one, at this place, has asked for octets of which that becomes
abbrev pub after_taking : Shared → ℕ → Holder → ℕ → Taken → Shared
after_taking room place holder octets Given = after_giving room place holder octets
after_taking room place holder octets Waits = after_waiting room place holder octets
after_taking room place holder octets Beyond = room

-- what `take` does: it is for the one with this number; without one nothing changes
abbrev pub Takes : Shared → ℕ → ℕ → Shared → Taken → Type 0
Takes old number octets new result =
    MatchOption (place_of number old.holders)
    ((new ≡ old) × (result ≡ Beyond))
    (λ place. IfSome (slice_get old.holders place)
    (λ holder. (result ≡ taken_of old place holder octets) × (new ≡ after_taking old place holder octets result)))

-- whether the one at this place waits and may have what it waits for
abbrev pub is_next_at : ℕ → List Holder → ℕ → Bool
is_next_at size holders place = option_map_or (λ holder. is_next size place holder holders) (slice_get holders place) false

-- the turn of the one at this place
abbrev pub turn_at : List Holder → ℕ → ℕ
turn_at holders place = option_map_or (λ holder. holder.turn) (slice_get holders place) 0

-- of those that wait and may have what they wait for the one at this place waits longest
pub record IsLongest (size : ℕ) (holders : List Holder) (place : ℕ) : Type 0 where
  pub there : place < length holders
  pub waits : is_next_at size holders place ≡ true
  pub longest : (other : ℕ) → other < length holders → is_next_at size holders other ≡ true → turn_at holders place ≤ turn_at holders other

-- none that waits may have what it waits for
abbrev pub IsNobodyNext : ℕ → List Holder → Type 0
IsNobodyNext size holders = (place : ℕ) → place < length holders → is_next_at size holders place ≡ false

-- the room with one more, behind all others, which holds nothing as yet
abbrev pub after_entering : Shared → ℕ → Option ℕ → ℕ → ℕ → Shared
after_entering room number asker server most =
    record room { entered = min (room.entered + 1) 18446744073709551615; holders = room.holders ++ record { number = number; asker = asker; server = server; most = most; held = 0; wanted = 0; turn = 0 } ∷ [] }
