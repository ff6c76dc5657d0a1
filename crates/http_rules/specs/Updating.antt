-- The fields of a stored object after a response with status 304 has confirmed it (RFC 9111, sections 3.2 and 4.3.4).
use Rattle.std.specs.Prelude.{ℕ, List, [], ◌∷◌, ◌++◌, codes, bytes_eq, filter, not, ◌||◌, Bool}
use Rattle.std.specs.List.{list_any}
use Rattle.http_rules.specs.Fields.{Field, has_field}
use Rattle.http_rules.specs.Forwarding.{end_to_end}

-- the fields that do not change, as the stored body depends on them: its length, and how it is coded. Content-Range is of partial
-- responses. Content-Type does change: the body is stored as it came.
abbrev pub is_of_body : List ℕ → Bool
is_of_body name =
    list_any (bytes_eq name) (codes "content-length" ∷ codes "content-encoding" ∷ codes "content-range" ∷ [])

-- what a response provides: the fields that may be stored (section 3.1), without those of the body
abbrev pub provided : List Field → List Field
provided response = filter (λ f. not (is_of_body f.0)) (end_to_end response)

-- the fields that are of a message on its way, and so of the last one alone: Age is the time since the object was validated
-- (section 5.1), Date when that was (RFC 9110, section 6.6.1), and Via by which way (RFC 9110, section 7.6.3)
abbrev pub is_of_message : List ℕ → Bool
is_of_message name = list_any (bytes_eq name) (codes "age" ∷ codes "date" ∷ codes "via" ∷ [])

-- whether stored fields with this name stay beside these provided ones
abbrev pub stays_beside : List Field → List ℕ → Bool
stays_beside fields name = not (is_of_message name || has_field name fields)

-- the stored fields that stay
abbrev pub staying : List Field → List Field → List Field
staying fields object = filter (λ f. stays_beside fields f.0) object

-- the fields of an object after a response: each provided field, in place of the stored ones with its name
abbrev pub updated : List Field → List Field → List Field
updated response object = staying (provided response) object ++ provided response
