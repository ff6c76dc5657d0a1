-- Which events swap a filter.
use Rattle.std.specs.Prelude.{Bool, true, false}
use Rattle.node_core.specs.Happening.{Happening, arrives, asks, ticks, ends, leaves, swaps}

abbrev pub is_swap : Happening → Bool
is_swap (arrives datagram now) = false
is_swap (asks client key mode now) = false
is_swap (ticks now) = false
is_swap (ends number attempt outcome now) = false
is_swap (leaves client) = false
is_swap (swaps place program) = true
