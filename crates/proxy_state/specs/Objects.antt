-- What objects are made of: the end-to-end fields of a response, and those that this cache adds.
use Rattle.std.specs.Prelude.{ℕ, List, [], ◌∷◌, ◌++◌, codes, bytes_eq, fold, ◌==◌, Bool, if◌then◌else◌}
use Rattle.std.specs.List.{list_any}
use Rattle.std.specs.Fmt.{decimal}
use Rattle.http_header.specs.FieldValue.{FieldValue, plain_value}
use Rattle.http_header.specs.HeaderMap.{Entries, append}
use Rattle.http_header.specs.Token.{lowercase}
use Rattle.http_rules.specs.Fields.{Field, fields_of}
use Rattle.http_rules.specs.Forwarding.{end_to_end}
use Rattle.http_rules.specs.Framing.{tells_end}

-- the Via field of a cache of this name, which has received the message over HTTP/1.1 (RFC 9110, section 7.6.3)
abbrev pub via : List ℕ → Field
via name = (codes "via", codes "1.1 " ++ name)

-- whether one of these fields is a Date
abbrev pub has_date : List Field → Bool
has_date fields = list_any (λ f. bytes_eq f.0 (codes "date")) fields

-- these fields, and this Date where there is none (RFC 9110, section 6.6.1)
abbrev pub with_date : List ℕ → List Field → List Field
with_date date fields = if has_date fields then fields else fields ++ (codes "date", date) ∷ []

-- these fields with what an object has of this cache
abbrev pub with_ours : List ℕ → List ℕ → List Field → List Field
with_ours name date fields = with_date date fields ++ via name ∷ []

-- the fields of the object of a response that came with these
abbrev pub object_fields : List ℕ → List ℕ → List Field → List Field
object_fields name date fields = with_ours name date (end_to_end fields)

-- the body of an object that is not stored: a response with status 205 has no content (RFC 9110, section 15.3.6)
abbrev pub unstored_body : ℕ → List ℕ → List ℕ
unstored_body status body = if status == 205 then [] else body

-- a head and these fields, in their order, each behind those of its name
abbrev pub head_and : Entries FieldValue → List Field → Entries FieldValue
head_and head fields = fold (λ head f. append head (lowercase f.0) (plain_value f.1)) head fields

-- the head that has these fields
abbrev pub head_with : List Field → Entries FieldValue
head_with fields = head_and [] fields

-- a head with the length of its body, where it does not tell where that ends (RFC 9112, section 6.3)
abbrev pub framed : ℕ → Entries FieldValue → Entries FieldValue
framed octets head =
    if tells_end (fields_of head) then head else append head (codes "content-length") (plain_value (decimal octets))
