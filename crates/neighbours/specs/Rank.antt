-- The order of peers: by smoothed time divided by weight, compared by cross multiplication; ties by index.
use Rattle.std.specs.Prelude.{◌≡◌, ℕ, ◌*◌, ◌<◌, ◌⊎◌, ◌≢◌, Bool, nat_lt, ◌==◌, ◌&&◌, ◌||◌}
use Rattle.neighbours.specs.declared.rank.Ranked.{Ranked}
use Rattle.neighbours.specs.Rows.{Rows, weight_at}

-- a, with weight u, precedes b, with weight v
abbrev pub Before : Ranked → ℕ → Ranked → ℕ → Type 0
Before a u b v = (a.s * v < b.s * u) ⊎ ((a.s * v ≡ b.s * u) × (a.n < b.n))

-- the same as a boolean function
abbrev pub before : Ranked → ℕ → Ranked → ℕ → Bool
before a u b v = nat_lt (a.s * v) (b.s * u) || ((a.s * v == b.s * u) && nat_lt a.n b.n)

-- a precedes b, with the weights of a table
abbrev pub IsBefore : Rows → Ranked → Ranked → Type 0
IsBefore rows a b = Before a (weight_at rows.neighbours a.n) b (weight_at rows.neighbours b.n)

-- a strict total order on different peers
pub record IsOrder (Less : Ranked → Ranked → Type 0) : Type 0 where
  pub irreflexive : (a : Ranked) → ¬ Less a a
  pub transitive : (a b c : Ranked) → Less a b → Less b c → Less a c
  pub total : (a b : Ranked) → a.n ≢ b.n → Less a b ⊎ Less b a
