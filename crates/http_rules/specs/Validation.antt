-- Validation of a stored object by its origin server (RFC 9111, section 4.3): what a conditional request for it carries, which
-- requests of clients may be made conditional, and which responses with status 304 are about the object.
use Rattle.std.specs.Prelude.{ℕ, List, [], ◌∷◌, ◌++◌, codes, not, ◌==◌, ◌&&◌, ◌||◌, Bool, false, Option, Some, None, is_some, option_and_then, if◌then◌else◌}
use Rattle.httpdate.specs.Date.{parse_secs}
use Rattle.http_rules.specs.Conditions.{is_for_origin}
use Rattle.http_rules.specs.Directives.{has_unclosed}
use Rattle.http_rules.specs.EntityTags.{is_weak, match_strongly, match_weakly}
use Rattle.http_rules.specs.Fields.{Field, has_field}
use Rattle.http_rules.specs.Forbidding.{forbids}
use Rattle.http_rules.specs.Validators.{only_value, only_date, entity_tag_of}

-- a text that is a date
abbrev pub as_date : List ℕ → Option (List ℕ)
as_date text = if is_some (parse_secs text) then Some text else None

-- the Last-Modified of an object as it was received, if it is a date
abbrev pub modified_text : List Field → Option (List ℕ)
modified_text object = option_and_then as_date (only_value (codes "last-modified") object)

-- a field with this name, where there is a value for it
abbrev pub field_for : List ℕ → Option (List ℕ) → List Field
field_for name None = []
field_for name (Some value) = (name, value) ∷ []

-- the precondition fields of a request that validates an object (section 4.3.1): its entity tag, which must be sent, and its
-- Last-Modified, which should be; none where it has neither
abbrev pub conditions_for : List Field → List Field
conditions_for object =
    field_for (codes "if-none-match") (entity_tag_of object)
    ++ field_for (codes "if-modified-since") (modified_text object)

-- whether an object has a validator to be asked about by
abbrev pub has_validator : List Field → Bool
has_validator object = is_some (entity_tag_of object) || is_some (modified_text object)

-- whether a request has conditions of its own (RFC 9110, section 13.1)
abbrev pub has_conditions : List Field → Bool
has_conditions request =
    is_for_origin request || has_field (codes "if-none-match") request || has_field (codes "if-modified-since") request
    || has_field (codes "if-range") request

-- whether the fetch for one request may validate an object for it. Not with credentials, by which the origin may have another
-- answer for it; nor with no-store, or a directive behind an unclosed quote, which may be one; nor for a range, which is a part
-- (section 4.3.1); nor with conditions, of which the client wants to have the answer.
abbrev pub may_validate : List Field → Bool
may_validate request =
    not (has_field (codes "authorization") request || has_field (codes "cookie") request
    || forbids (codes "no-store") request || has_unclosed request
    || has_field (codes "range") request || has_conditions request)

-- two dates are there, and the same
abbrev pub is_same_date : Option ℕ → Option ℕ → Bool
is_same_date (Some given) (Some stored) = given == stored
is_same_date (Some given) None = false
is_same_date None stored = false

-- a Last-Modified of a response with status 304, if it has one, is that of the object, as a date: one that is no date is nobody's
abbrev pub is_as_old : List Field → List Field → Bool
is_as_old response object =
    not (has_field (codes "last-modified") response)
    || is_same_date (only_date (codes "last-modified") response) (only_date (codes "last-modified") object)

-- the entity tag of a response with status 304 is that of the object (section 4.3.4): a strong one by strong comparison. A weak one
-- by weak comparison, and then the Last-Modified has to be the object's too, since that may be a strong validator.
abbrev pub is_same_tag : Option (List ℕ) → Option (List ℕ) → Bool → Bool
is_same_tag (Some given) (Some stored) as_old =
    if is_weak given then match_weakly given stored && as_old else match_strongly given stored
is_same_tag (Some given) None as_old = false
is_same_tag None stored as_old = false

-- whether a response with status 304 to the conditional request for an object is about this object (section 4.3.4): by its entity
-- tag if it has one, otherwise by its Last-Modified if it has one. Two exceptions to that section: a response without any validator is
-- about what was asked for, since the request had this object's validators alone (the section says so only of an object that has none
-- itself; servers leave out Last-Modified in such responses, which RFC 9110, section 15.4.5, lets them); and one with an entity tag is
-- not about an object without one, even if their Last-Modified are the same.
abbrev pub is_about : List Field → List Field → Bool
is_about response object =
    if has_field (codes "etag") response
    then is_same_tag (only_value (codes "etag") response) (only_value (codes "etag") object) (is_as_old response object)
    else is_as_old response object
