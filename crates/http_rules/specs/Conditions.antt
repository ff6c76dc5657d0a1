-- The answer that a stored object with status 200 gives to a request with conditions or a range (RFC 9110, sections 13 and 14; RFC
-- 9111, section 4.3.2). What is not understood never makes the answer shorter: the whole object is sent.
use Rattle.std.specs.Prelude.{ℕ, ◌-◌, List, [], ◌∷◌, codes, bytes_eq, nat_le, not, ◌==◌, ◌&&◌, ◌||◌, Bool, false, Option, Some, None, option_and_then, if◌then◌else◌}
use Rattle.std.specs.List.{list_any}
use Rattle.httpdate.specs.Date.{parse_secs}
use Rattle.http_rules.specs.declared.conditions.StoredAnswer.{StoredAnswer}
use Rattle.http_rules.specs.declared.conditions.StoredAnswer.TheVariants.{Whole, NotModified}
use Rattle.http_rules.specs.declared.ranges.ByteRange.{ByteRange}
use Rattle.http_rules.specs.EntityTags.{is_entity_tag, lists_weak_match, match_strongly}
use Rattle.http_rules.specs.Fields.{Field, values_of, has_field}
use Rattle.http_rules.specs.Ranges.{range_of, selected}
use Rattle.http_rules.specs.Validators.{only_value, only_date, entity_tag_of, modified_at}

-- conditions that only an origin server evaluates (RFC 9110, sections 13.1.1 and 13.1.4)
abbrev pub is_for_origin : List Field → Bool
is_for_origin request = has_field (codes "if-match") request || has_field (codes "if-unmodified-since") request

-- If-None-Match is *, which an object always matches (section 13.1.2)
abbrev pub is_any : Option (List ℕ) → Bool
is_any None = false
is_any (Some value) = bytes_eq value (codes "*")

abbrev pub matches_any : List Field → Bool
matches_any request = is_any (only_value (codes "if-none-match") request)

-- some value of If-None-Match lists the object's entity tag, by weak comparison (section 13.1.2). An object without a tag has none
-- to match, and a value that is no list of entity tags lists none.
abbrev pub lists_tag : List Field → Option (List ℕ) → Bool
lists_tag request None = false
lists_tag request (Some tag) = list_any (lists_weak_match tag) (values_of (codes "if-none-match") request)

abbrev pub names_object : List Field → List Field → Bool
names_object request object = matches_any request || lists_tag request (entity_tag_of object)

-- the object was not modified after a date. No condition is met where one of the two is missing (section 13.1.3).
abbrev pub is_not_after : Option ℕ → Option ℕ → Bool
is_not_after (Some modified) (Some since) = nat_le modified since
is_not_after None since = false
is_not_after (Some modified) None = false

abbrev pub is_unmodified : List Field → List Field → Bool
is_unmodified request object = is_not_after (modified_at object) (only_date (codes "if-modified-since") request)

-- the client's copy is as the object is: If-None-Match says so, or, only where there is no If-None-Match, If-Modified-Since
abbrev pub is_unchanged : List Field → List Field → Bool
is_unchanged request object =
    if has_field (codes "if-none-match") request then names_object request object
    else is_unmodified request object

-- a date is exactly the object's Last-Modified, which is a strong validator: the object's Date is later by a minute at least, as the
-- two may be of different clocks (sections 8.8.2.2 and 13.1.5)
abbrev pub is_strong_date : Option ℕ → Option ℕ → Option ℕ → Bool
is_strong_date (Some given) (Some modified) (Some sent) = given == modified && nat_le 60 (sent - modified)
is_strong_date (Some given) (Some modified) None = false
is_strong_date (Some given) None sent = false
is_strong_date None modified sent = false

abbrev pub has_date : List ℕ → List Field → Bool
has_date value object =
    is_strong_date (parse_secs value) (only_date (codes "last-modified") object) (only_date (codes "date") object)

-- a tag is the object's, by strong comparison
abbrev pub has_tag : List ℕ → Option (List ℕ) → Bool
has_tag value None = false
has_tag value (Some tag) = match_strongly value tag

-- the validator of an If-Range, an entity tag or a date, is the object's, and a strong one (section 13.1.5)
abbrev pub is_validator_of : List ℕ → List Field → Bool
is_validator_of value object = if is_entity_tag value then has_tag value (entity_tag_of object) else has_date value object

-- with more than one If-Range none holds
abbrev pub holds_for : List Field → Option (List ℕ) → Bool
holds_for object None = false
holds_for object (Some value) = is_validator_of value object

-- the range of a request holds for the object: there is no If-Range, or it holds
abbrev pub range_still_holds : List Field → List Field → Bool
range_still_holds request object =
    not (has_field (codes "if-range") request) || holds_for object (only_value (codes "if-range") request)

-- the part that a range asks for, if it holds
abbrev pub part_of : Option ByteRange → Bool → ℕ → StoredAnswer
part_of None holds length = Whole
part_of (Some range) holds length = if holds then selected range length else Whole

abbrev pub part_asked_for : List Field → List Field → ℕ → StoredAnswer
part_asked_for request object length =
    part_of (option_and_then range_of (only_value (codes "range") request)) (range_still_holds request object) length

-- the answer to a request, in the order of section 13.2.2: the first case that applies counts. What the origin has to judge gets the
-- whole object here, HEAD has no ranges, and a range that is not satisfiable is told as one (section 14.2).
abbrev pub answer_to : List ℕ → List Field → List Field → ℕ → StoredAnswer
answer_to method request object length =
    if not (bytes_eq method (codes "GET")) && not (bytes_eq method (codes "HEAD")) || is_for_origin request then Whole
    else if is_unchanged request object then NotModified
    else if bytes_eq method (codes "GET") then part_asked_for request object length
    else Whole

-- the fields that a response with status 304 has if one with status 200 would have them (section 15.4.5); Last-Modified among them,
-- so that a response without ETag has a validator
abbrev pub not_modified_names : List (List ℕ)
not_modified_names =
    codes "cache-control" ∷ codes "content-location" ∷ codes "date" ∷ codes "etag" ∷ codes "expires" ∷ codes "last-modified" ∷ codes "vary" ∷ []
