-- Entity tags (RFC 9110, section 8.8.3): an opaque tag in double quotes, with W/ in front of it if the tag is weak. A backslash in
-- it is an octet like others.
-- 34 is a double quote, 44 a comma, 47 a slash, 87 the letter W.
use Rattle.std.specs.Prelude.{ℕ, suc, ◌-◌, List, [], ◌∷◌, length, drop, bytes_eq, slice_index, slice_range, nat_le, not, ◌==◌, ◌&&◌, ◌||◌, Bool, false, Option, Some, None, if◌then◌else◌}
use Rattle.std.specs.List.{list_all, list_any}
use Rattle.http_rules.specs.Text.{trimmed}

-- an octet of an opaque tag: etagc, which is visible ASCII without the double quote, or any octet from 0x80 on
abbrev pub is_tag_octet : ℕ → Bool
is_tag_octet c = c == 0x21 || ((nat_le 0x23 c && nat_le c 0x7e) || nat_le 0x80 c)

-- opaque-tag: any number of these octets between two double quotes
abbrev pub is_opaque_tag : List ℕ → Bool
is_opaque_tag text =
    nat_le 2 (length text)
    && (slice_index text 0 == 34 && (slice_index text (length text - 1) == 34
    && list_all is_tag_octet (slice_range text 1 (length text - 1))))

-- whether a tag is weak: it begins with W/, and not with w/
abbrev pub is_weak : List ℕ → Bool
is_weak tag = nat_le 2 (length tag) && (slice_index tag 0 == 87 && slice_index tag 1 == 47)

-- the opaque tag of a tag
abbrev pub opaque_tag : List ℕ → List ℕ
opaque_tag tag = if is_weak tag then drop 2 tag else tag

-- entity-tag: an opaque tag, which may be marked as weak
abbrev pub is_entity_tag : List ℕ → Bool
is_entity_tag text = is_opaque_tag (opaque_tag text)

-- strong comparison (section 8.8.3.2): both are not weak, and their opaque tags are equal
abbrev pub match_strongly : List ℕ → List ℕ → Bool
match_strongly a b = not (is_weak a) && (not (is_weak b) && bytes_eq (opaque_tag a) (opaque_tag b))

-- weak comparison (section 8.8.3.2): the opaque tags are equal, whether or not either is weak
abbrev pub match_weakly : List ℕ → List ℕ → Bool
match_weakly a b = bytes_eq (opaque_tag a) (opaque_tag b)

-- whether the place after an octet is inside double quotes
abbrev pub quoted_after : Bool → ℕ → Bool
quoted_after quoted c = if c == 34 then not quoted else quoted

-- whether an octet is a comma outside of double quotes
abbrev pub is_comma : Bool → ℕ → Bool
is_comma quoted c = not quoted && c == 44

-- an octet prepended to the first element
abbrev pub onto_first_tag : ℕ → List (List ℕ) → List (List ℕ)
onto_first_tag c [] = (c ∷ []) ∷ []
onto_first_tag c (x ∷ xs) = (c ∷ x) ∷ xs

-- the elements of a list of tags, separated by the commas outside of double quotes; the text begins inside double quotes or not
abbrev pub tag_elements : Bool → List ℕ → List (List ℕ)
tag_elements quoted [] = [] ∷ []
tag_elements quoted (c ∷ cs) =
    if is_comma quoted c then [] ∷ tag_elements false cs
    else onto_first_tag c (tag_elements (quoted_after quoted c) cs)

-- whether an element is an entity tag, or empty: empty elements do not count (section 5.6.1.2)
abbrev pub is_list_element : List ℕ → Bool
is_list_element element = length (trimmed element) == 0 || is_entity_tag (trimmed element)

-- whether a value is a list of entity tags
abbrev pub is_tag_list : List ℕ → Bool
is_tag_list value = list_all is_list_element (tag_elements false value)

-- whether an element of a value matches a tag by weak comparison
abbrev pub has_weak_match : List ℕ → List ℕ → Bool
has_weak_match tag value = list_any (λ element. match_weakly tag (trimmed element)) (tag_elements false value)

-- whether a value is a list of entity tags of which one matches a tag by weak comparison
abbrev pub lists_weak_match : List ℕ → List ℕ → Bool
lists_weak_match tag value = is_tag_list value && has_weak_match tag value

-- The two below are for contracts of private functions only.

-- the length of the first element
abbrev pub tag_element_len : Bool → List ℕ → ℕ
tag_element_len quoted [] = 0
tag_element_len quoted (c ∷ cs) = if is_comma quoted c then 0 else suc (tag_element_len (quoted_after quoted c) cs)

-- the elements of the rest of a text, if there is one
abbrev pub tag_elements_left : Option (List ℕ) → List (List ℕ)
tag_elements_left None = []
tag_elements_left (Some text) = tag_elements false text
