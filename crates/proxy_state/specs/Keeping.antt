-- Which answers are stored, and for how long, by the profile of the configuration.
use Rattle.std.specs.Prelude.{ℕ, List, Option}
use Rattle.node_terms.specs.declared.mode.Mode.{Mode}
use Rattle.http_rules.specs.Fields.{Field}
use Rattle.http_rules.specs.Storing.{StorableAnswer, by_published, by_rfc9111}
use Rattle.proxy_state.specs.declared.keeping.Profile.{Profile}
use Rattle.proxy_state.specs.declared.keeping.Profile.TheVariants.{Published, Rfc9111}

-- an answer with this status and these fields to a fetch of this mode of a URL, which was asked for and came at these times
abbrev pub storable_by : Mode → List ℕ → ℕ → List Field → ℕ → ℕ → Profile → Option StorableAnswer
storable_by mode url status fields requested received Published = by_published mode status fields
storable_by mode url status fields requested received (Rfc9111 rules) =
    by_rfc9111 mode url status fields requested received rules.items
