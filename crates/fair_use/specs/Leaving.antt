-- When a fetch for all clients ends since it has no client any more. Lengths are in octets, times in milliseconds.
use Rattle.std.specs.Prelude.{ℕ, ◌-◌, ◌*◌, nat_lt, nat_le, ◌||◌, not, Bool, true, Option, Some, None}

-- what is missing of an answer of this length of which so many octets have come
abbrev pub missing : ℕ → ℕ → ℕ
missing length received = length - received

-- whether so little of an answer is missing that it is fetched to its end for nobody: under `most` octets, or under 5 percent of its length
abbrev pub is_nearly_whole : ℕ → ℕ → ℕ → Bool
is_nearly_whole most length received =
    nat_lt (missing length received) most || nat_lt (missing length received * 100) (length * 5)

-- whether a fetch ends whose last client has gone: unless its answer is nearly whole, which one of unannounced length never is
abbrev pub ends_unwanted : ℕ → Option ℕ → ℕ → Bool
ends_unwanted most None received = true
ends_unwanted most (Some length) received = not (is_nearly_whole most length received)

-- whether a fetch that goes on without a client has had none for so long that it ends: for 10 seconds
abbrev pub is_alone_too_long : ℕ → Bool
is_alone_too_long alone = nat_le 10000 alone
