-- Whom the answer of a fetch is for.
use Rattle.std.specs.Prelude.{ℕ, not, ◌==◌, ◌&&◌, Bool}

-- whether it is only for the client that began the fetch: who asks has joined it, it may not be stored, as its life of 0 says (RFC 9111,
-- section 3), and it is no stored one that is given though it is stale
abbrev pub is_only_for_who_began : Bool → ℕ → Bool → Bool
is_only_for_who_began is_joined life is_stale = is_joined && (life == 0 && not is_stale)
