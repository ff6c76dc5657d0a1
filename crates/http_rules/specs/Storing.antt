-- Which answers may be stored, and what there is to show for it: an answer whose head tells where its body ends, and which the published
-- rules or those of RFC 9111 have stored.
use Rattle.std.specs.Prelude.{◌≡◌, ◌⊎◌, ℕ, List, true, Option, Some, None, option_map, if◌then◌else◌}
use Rattle.node_terms.specs.declared.mode.Mode.{Mode}
use Rattle.http_rules.specs.declared.freshness.Kept.{Kept}
use Rattle.http_rules.specs.declared.refresh.RefreshRule.{RefreshRule}
use Rattle.http_rules.specs.Fields.{Field}
use Rattle.http_rules.specs.Framing.{tells_end}
use Rattle.http_rules.specs.Freshness.{kept_of}
use Rattle.http_rules.specs.Responses.{age_of, life_of}

-- an answer that may be stored: the mode of its fetch, its status and its fields as received, its age in seconds when it came, and for
-- how many seconds from then on it may be stored
pub record StorableAnswer : Type 0 where
  pub mode : Mode
  pub status : ℕ
  pub fields : List Field
  pub age : ℕ
  pub life : ℕ

-- the answer with this age and life
abbrev pub storable_for : Mode → ℕ → List Field → ℕ → ℕ → StorableAnswer
storable_for mode status fields age life = record {
  mode = mode;
  status = status;
  fields = fields;
  age = age;
  life = life;
}

-- the same as the rules of RFC 9111 have it kept
abbrev pub storable_as : Mode → ℕ → List Field → Kept → StorableAnswer
storable_as mode status fields kept = storable_for mode status fields kept.age kept.life

-- what is said of the answer with this status and these fields to a fetch of this mode
abbrev pub IsOf : Mode → ℕ → List Field → StorableAnswer → Type 0
IsOf mode status fields a = (a.mode ≡ mode) × (a.status ≡ status) × (a.fields ≡ fields)

-- an answer that may be stored by the published rules
abbrev pub by_published : Mode → ℕ → List Field → Option StorableAnswer
by_published mode status fields =
    if tells_end fields
    then option_map (λ life. storable_for mode status fields (age_of fields) life) (life_of mode status fields)
    else None

-- an answer that may be stored by the rules of RFC 9111
abbrev pub by_rfc9111 : Mode → List ℕ → ℕ → List Field → ℕ → ℕ → List RefreshRule → Option StorableAnswer
by_rfc9111 mode url status fields requested received rules =
    if tells_end fields
    then option_map (λ kept. storable_as mode status fields kept) (kept_of mode url status fields requested received rules)
    else None

-- the published rules have it stored for as long
abbrev pub IsByPublished : StorableAnswer → Type 0
IsByPublished a = (life_of a.mode a.status a.fields ≡ Some a.life) × (a.age ≡ age_of a.fields)

-- those of RFC 9111 have it stored for as long, for some URL, times and refresh rules
abbrev pub IsByRfc9111 : StorableAnswer → Type 0
IsByRfc9111 a =
    (url : List ℕ) × (requested : ℕ) × (received : ℕ) × (rules : List RefreshRule)
    × (kept_of a.mode url a.status a.fields requested received rules ≡ Some (record { age = a.age; life = a.life }))

-- an answer that may be stored: it can't have been cut without that being known, and one of the two sets of rules has it stored
abbrev pub IsStorable : StorableAnswer → Type 0
IsStorable a = (tells_end a.fields ≡ true) × (IsByPublished a ⊎ IsByRfc9111 a)
