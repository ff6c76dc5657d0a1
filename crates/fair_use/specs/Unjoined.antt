-- Which ends of a fetch for all clients are remembered, so that who asks for the same next joins no fetch.
use Rattle.std.specs.Prelude.{◌<◌}
use Rattle.fair_use.specs.declared.unjoined.SharedEnd.{SharedEnd}
use Rattle.fair_use.specs.declared.unjoined.SharedEnd.TheVariants.{Storable, Unstorable, TooLarge, Overtaken, Headless}

-- that of a response that may not be stored and is no error of a server
abbrev pub IsRemembered : SharedEnd → Type 0
IsRemembered Storable = ⊥
IsRemembered (Unstorable status) = status < 500
IsRemembered TooLarge = ⊥
IsRemembered Overtaken = ⊥
IsRemembered Headless = ⊥
