-- The directives of Cache-Control fields (RFC 9111, section 5.2): list elements separated by commas. Commas inside double quotes
-- do not separate, and a backslash inside double quotes escapes the next octet. Each directive is a name, compared without
-- regard to case, and an argument.
-- 9 is a tab, 32 a space, 34 a double quote, 44 a comma, 61 an equals sign, 92 a backslash.
use Rattle.std.specs.Prelude.{ℕ, List, [], ◌∷◌, map, find, flat_map, take, drop, bytes_eq, codes, ◌==◌, Bool, false, ◌||◌, true, Option, None, is_some, option_map, if◌then◌else◌}
use Rattle.std.specs.List.{position_or_len, list_any}
use Rattle.http_header.specs.Token.{lowercase}
use Rattle.http_rules.specs.declared.directives.Place.{Place}
use Rattle.http_rules.specs.declared.directives.Place.TheVariants.{Plain, Quoted, Escaped}
use Rattle.http_rules.specs.Fields.{Field, values_of}
use Rattle.http_rules.specs.Text.{trimmed, unquoted, seconds}

-- the quoting state after an octet
abbrev pub place_after : Place → ℕ → Place
place_after Plain c = if c == 34 then Quoted else Plain
place_after Quoted c = if c == 34 then Plain else if c == 92 then Escaped else Quoted
place_after Escaped c = Quoted

-- whether an octet, read in this state, ends a list element
abbrev pub is_separator : Place → ℕ → Bool
is_separator Plain c = c == 44
is_separator Quoted c = false
is_separator Escaped c = false

-- the quoting state after a text, starting in this state
abbrev pub place_behind : Place → List ℕ → Place
place_behind place [] = place
place_behind place (c ∷ cs) = place_behind (place_after place c) cs

-- whether the state is inside double quotes
abbrev pub is_quoted : Place → Bool
is_quoted Plain = false
is_quoted Quoted = true
is_quoted Escaped = true

-- whether a value has an unclosed double quote
abbrev pub is_unclosed : List ℕ → Bool
is_unclosed value = is_quoted (place_behind Plain value)

-- an octet prepended to the first element
abbrev pub onto_first : ℕ → List (List ℕ) → List (List ℕ)
onto_first c [] = (c ∷ []) ∷ []
onto_first c (x ∷ xs) = (c ∷ x) ∷ xs

-- the list elements of a text, starting in this state
abbrev pub elements_from : Place → List ℕ → List (List ℕ)
elements_from place [] = [] ∷ []
elements_from place (c ∷ cs) =
    if is_separator place c then [] ∷ elements_from Plain cs
    else onto_first c (elements_from (place_after place c) cs)

-- whether an octet ends the name of a directive: equals sign, space or tab
abbrev pub ends_name : ℕ → Bool
ends_name c = c == 61 || (c == 32 || c == 9)

-- the name of an element in lower case, and its argument: everything after the name
abbrev pub directive_of : List ℕ → List ℕ × List ℕ
directive_of element =
    let text = trimmed element in
    let end = position_or_len ends_name text in
    (lowercase (take end text), drop end text)

-- the directives of one field value
abbrev pub directives_in : List ℕ → List (List ℕ × List ℕ)
directives_in value = map directive_of (elements_from Plain value)

-- the directives of all Cache-Control fields of a head
abbrev pub directives : List Field → List (List ℕ × List ℕ)
directives fields = flat_map directives_in (values_of (codes "cache-control") fields)

-- the argument of the first of these directives with this name
abbrev pub first_argument : List ℕ → List (List ℕ × List ℕ) → Option (List ℕ)
first_argument name list = option_map (λ d. d.1) (find (λ d. bytes_eq d.0 name) list)

-- the argument of the first directive of a head with this name
abbrev pub argument : List ℕ → List Field → Option (List ℕ)
argument name fields = first_argument name (directives fields)

-- whether a head has a directive with this name
abbrev pub asks : List ℕ → List Field → Bool
asks name fields = is_some (argument name fields)

-- an argument as seconds: an equals sign and a decimal number, which may be in double quotes
abbrev pub argument_seconds : List ℕ → Option ℕ
argument_seconds [] = None
argument_seconds (c ∷ text) = if c == 61 then seconds (unquoted text) else None

-- whether some Cache-Control value has an unclosed double quote, so that directives after the quote cannot be recognized
abbrev pub has_unclosed : List Field → Bool
has_unclosed fields = list_any is_unclosed (values_of (codes "cache-control") fields)
