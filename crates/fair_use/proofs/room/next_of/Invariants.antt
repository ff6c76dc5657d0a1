use Rattle.std.proofs.Common.{◌≡◌, ℕ, ◌≤◌, ◌<◌, true, false, IfSome, IfNone, length}
use Rattle.fair_use.specs.Room.{is_next_at, turn_at}
use Rattle.fair_use.proofs.room.next_of.Given as goal

-- of those before this place the one that was found waits longest; without one, none of them is next
abbrev pub invariant-loop-place : goal.invariant-loop-place
invariant-loop-place l =
    IfSome l.found (λ place. (place < length l.holders) × (is_next_at l.size l.holders place ≡ true)
    × ((other : ℕ) → other < l.place → is_next_at l.size l.holders other ≡ true → turn_at l.holders place ≤ turn_at l.holders other))
    × IfNone l.found ((other : ℕ) → other < l.place → is_next_at l.size l.holders other ≡ false)
