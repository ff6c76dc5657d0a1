-- The head of a message as a list of fields, each a name in lower case and a value. Fields with the same name are in the order in
-- which they were received.
use Rattle.std.specs.Prelude.{ℕ, List, map, filter, bytes_eq, slice_get, Option, is_some, Bool}
use Rattle.http_header.specs.HeaderMap.{Entries, pairs}
use Rattle.http_header.specs.FieldValue.{FieldValue}

-- a name and a value
abbrev pub Field : Type 0
Field = List ℕ × List ℕ

-- the fields that a header map holds
abbrev pub fields_of : Entries FieldValue → List Field
fields_of head = map (λ p. (p.0, p.1.bytes)) (pairs head)

-- the values of all fields with this name, in order
abbrev pub values_of : List ℕ → List Field → List (List ℕ)
values_of name fields = map (λ f. f.1) (filter (λ f. bytes_eq f.0 name) fields)

-- the value of the first field with this name
abbrev pub first_value : List ℕ → List Field → Option (List ℕ)
first_value name fields = slice_get (values_of name fields) 0

-- whether there is a field with this name
abbrev pub has_field : List ℕ → List Field → Bool
has_field name fields = is_some (first_value name fields)
