-- The least speed of what comes: octets a second, measured over windows of 30 seconds.
use Rattle.std.specs.Prelude.{ℕ, ◌*◌, Bool, nat_lt}

-- whether fewer octets came in a window than 30 times what is to come in a second
abbrev pub is_too_slow : ℕ → ℕ → Bool
is_too_slow least octets = nat_lt octets (least * 30)
