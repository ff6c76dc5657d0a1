-- Objects on the shelf. Times are in milliseconds, ages in seconds.
use Rattle.std.specs.Prelude.{ℕ, ◌+◌, ◌-◌, ◌/◌, min}
use Rattle.object_store.specs.declared.entry.Entry.{Entry}

-- for how many whole seconds an entry has been there (resident_time of RFC 9111, section 4.2.3)
abbrev pub resident_seconds : ℕ → Entry → ℕ
resident_seconds now entry = (now - entry.at) / 1000

-- the age of its object: the one that it came with and the time that it has been there (current_age there). 4294967295 stands for all that
-- are greater.
abbrev pub current_age : ℕ → Entry → ℕ
current_age now entry = min (entry.object.age + resident_seconds now entry) 4294967295
