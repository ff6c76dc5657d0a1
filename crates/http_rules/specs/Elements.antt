-- The first list element of a text, the rest after it, and what has been found in several values. Only contracts of private
-- functions use these definitions.
use Rattle.std.specs.Prelude.{◌≡◌, ℕ, suc, List, [], ◌∷◌, length, map, codes, bytes_eq, ◌||◌, Bool, is_some, Option, Some, None, option_map, if◌then◌else◌}
use Rattle.std.specs.List.{list_any}
use Rattle.std.specs.Option.{option_or}
use Rattle.http_rules.specs.declared.directives.Directives.{Directives}
use Rattle.http_rules.specs.declared.directives.Place.{Place}
use Rattle.http_rules.specs.declared.directives.Place.TheVariants.{Plain}
use Rattle.http_rules.specs.Directives.{place_after, is_separator, elements_from, directive_of, first_argument, argument, argument_seconds, asks, has_unclosed}
use Rattle.http_rules.specs.Fields.{Field}
use Rattle.http_rules.specs.Forbidding.{before_semicolon, forbids}

-- the length of the first list element of a text, starting in this state
abbrev pub element_len : Place → List ℕ → ℕ
element_len place [] = 0
element_len place (c ∷ cs) = if is_separator place c then 0 else suc (element_len (place_after place c) cs)

-- the list elements of the rest of a text, if there is one
abbrev pub elements_left : Option (List ℕ) → List (List ℕ)
elements_left None = []
elements_left (Some text) = elements_from Plain text

-- the directives of the rest of a text, if there is one
abbrev pub directives_left : Option (List ℕ) → List (List ℕ × List ℕ)
directives_left rest = map directive_of (elements_left rest)

-- one more than the length of the rest of a text, or 0 if there is none
abbrev pub octets_left : Option (List ℕ) → ℕ
octets_left None = 0
octets_left (Some text) = suc (length text)

-- whether one of these directives has this name
abbrev pub is_among : List ℕ → List (List ℕ × List ℕ) → Bool
is_among name list = is_some (first_argument name list)

-- the seconds of the first of these directives with this name
abbrev pub seconds_among : List ℕ → List (List ℕ × List ℕ) → Option (Option ℕ)
seconds_among name list = option_map argument_seconds (first_argument name list)

-- whether one of these directives has this name, perhaps before a semicolon
abbrev pub is_loosely_among : List ℕ → List (List ℕ × List ℕ) → Bool
is_loosely_among name list = list_any (λ d. bytes_eq (before_semicolon d.0) name) list

-- with those of the rest, what was found are the directives of the whole
pub record Completes (found : Directives) (rest whole : List (List ℕ × List ℕ)) : Type 0 where
  pub only_if_cached : is_among (codes "only-if-cached") whole ≡ (found.only_if_cached || is_among (codes "only-if-cached") rest)
  pub no_cache : is_among (codes "no-cache") whole ≡ (found.no_cache || is_among (codes "no-cache") rest)
  pub no_store : is_among (codes "no-store") whole ≡ (found.no_store || is_among (codes "no-store") rest)
  pub private : is_among (codes "private") whole ≡ (found.private || is_among (codes "private") rest)
  pub loose_no_cache : is_loosely_among (codes "no-cache") whole ≡ (found.loose_no_cache || is_loosely_among (codes "no-cache") rest)
  pub loose_no_store : is_loosely_among (codes "no-store") whole ≡ (found.loose_no_store || is_loosely_among (codes "no-store") rest)
  pub s_maxage : seconds_among (codes "s-maxage") whole ≡ option_or found.s_maxage (seconds_among (codes "s-maxage") rest)
  pub max_age : seconds_among (codes "max-age") whole ≡ option_or found.max_age (seconds_among (codes "max-age") rest)
  pub min_fresh : seconds_among (codes "min-fresh") whole ≡ option_or found.min_fresh (seconds_among (codes "min-fresh") rest)

-- what was found are the directives of a head
pub record Finds (found : Directives) (fields : List Field) : Type 0 where
  pub only_if_cached : found.only_if_cached ≡ asks (codes "only-if-cached") fields
  pub no_cache : found.no_cache ≡ asks (codes "no-cache") fields
  pub no_store : found.no_store ≡ asks (codes "no-store") fields
  pub private : found.private ≡ asks (codes "private") fields
  pub loose_no_cache : found.loose_no_cache ≡ forbids (codes "no-cache") fields
  pub loose_no_store : found.loose_no_store ≡ forbids (codes "no-store") fields
  pub s_maxage : found.s_maxage ≡ option_map argument_seconds (argument (codes "s-maxage") fields)
  pub max_age : found.max_age ≡ option_map argument_seconds (argument (codes "max-age") fields)
  pub min_fresh : found.min_fresh ≡ option_map argument_seconds (argument (codes "min-fresh") fields)
  pub unclosed : found.unclosed ≡ has_unclosed fields
