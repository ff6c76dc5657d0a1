-- Which servers are connected to, of those that were judged.
use Rattle.std.specs.Prelude.{List, [], ◌∷◌, Option, Some, None}
use Rattle.origin_rules.specs.declared.admitted.Admitted.{Admitted}

-- those that are admitted, in their order
abbrev pub chosen : List (Option Admitted) → List Admitted
chosen [] = []
chosen (None ∷ judged) = chosen judged
chosen (Some server ∷ judged) = server ∷ chosen judged
