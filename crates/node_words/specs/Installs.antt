-- The programs that a list of events installs.
use Rattle.std.specs.Prelude.{List, [], ◌∷◌, IfSome}
use Rattle.bpf_check.specs.Accepted.{IsAccepted}
use Rattle.node_words.specs.Happening.{Happening, arrives, asks, ticks, ends, leaves, swaps}

-- the checker accepts every program that is installed
abbrev pub PutsInAccepted : List Happening → Type 0
PutsInAccepted [] = Unit {0}
PutsInAccepted (arrives datagram now ∷ events) = PutsInAccepted events
PutsInAccepted (asks client key mode now ∷ events) = PutsInAccepted events
PutsInAccepted (ticks now ∷ events) = PutsInAccepted events
PutsInAccepted (ends number attempt outcome now ∷ events) = PutsInAccepted events
PutsInAccepted (leaves client ∷ events) = PutsInAccepted events
PutsInAccepted (swaps place program ∷ events) = IfSome program IsAccepted × PutsInAccepted events
