-- Validators and dates in the fields of requests and of stored objects (RFC 9110, section 8.8). Dates are seconds since 1970.
use Rattle.std.specs.Prelude.{ℕ, List, [], ◌∷◌, codes, map, Vec, Option, Some, None, option_and_then, if◌then◌else◌}
use Rattle.std.specs.declared.alloc.Global.{Global}
use Rattle.httpdate.specs.Date.{parse_secs}
use Rattle.http_rules.specs.EntityTags.{is_entity_tag}
use Rattle.http_rules.specs.Fields.{Field, values_of, has_field}

-- the fields of a stored object
abbrev pub stored_fields : List (Vec ℕ Global × Vec ℕ Global) → List Field
stored_fields object = map (λ f. (f.0.items, f.1.items)) object

-- the only one of some values
abbrev pub only_of : List (List ℕ) → Option (List ℕ)
only_of [] = None
only_of (value ∷ []) = Some value
only_of (value ∷ (other ∷ values)) = None

-- the value of the only field with this name
abbrev pub only_value : List ℕ → List Field → Option (List ℕ)
only_value name fields = only_of (values_of name fields)

-- the date in the only field with this name
abbrev pub only_date : List ℕ → List Field → Option ℕ
only_date name fields = option_and_then parse_secs (only_value name fields)

-- a text that is an entity tag
abbrev pub as_tag : List ℕ → Option (List ℕ)
as_tag text = if is_entity_tag text then Some text else None

-- the entity tag of an object
abbrev pub entity_tag_of : List Field → Option (List ℕ)
entity_tag_of object = option_and_then as_tag (only_value (codes "etag") object)

-- when an object was modified: its Last-Modified, or its Date if it has no Last-Modified (RFC 9111, section 4.3.2; every stored
-- object has a Date)
abbrev pub modified_at : List Field → Option ℕ
modified_at object =
    if has_field (codes "last-modified") object then only_date (codes "last-modified") object
    else only_date (codes "date") object
