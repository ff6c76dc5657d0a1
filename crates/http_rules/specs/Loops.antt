-- Requests that have come through this cache before, which CDN-Loop tells (RFC 8586): each cache on the way adds an element.
-- 9 is a tab, 32 a space.
use Rattle.std.specs.Prelude.{ℕ, List, [], ◌∷◌, ◌++◌, codes, bytes_eq, length, ◌==◌, ◌&&◌, ◌||◌, not, Bool, false, if◌then◌else◌}
use Rattle.std.specs.List.{list_any, list_all}
use Rattle.std.specs.Int.{w64, to_be_bytes}
use Rattle.hex.specs.Hex.{encode_lower}
use Rattle.http_header.specs.Token.{is_token_byte}
use Rattle.http_rules.specs.declared.directives.Place.{Place}
use Rattle.http_rules.specs.declared.directives.Place.TheVariants.{Plain, Quoted, Escaped}
use Rattle.http_rules.specs.Directives.{place_after, elements_from}
use Rattle.http_rules.specs.Fields.{Field, values_of}

-- a token (RFC 9110, section 5.6.2): one or more of its octets
abbrev pub is_token : List ℕ → Bool
is_token text = not (length text == 0) && list_all is_token_byte text

-- the name in a mark: that of the cache if it is a token
abbrev pub marker_name : List ℕ → List ℕ
marker_name name = if is_token name then name else codes "wabretos"

-- the mark of a cache: its name, and a parameter with the number as 16 hexadecimal digits
abbrev pub loop_mark : List ℕ → ℕ → List ℕ
loop_mark name number = marker_name name ++ codes ";id=" ++ encode_lower (to_be_bytes w64 number)

-- whether an octet, read in this state, is a space or a tab outside double quotes
abbrev pub is_blank : Place → ℕ → Bool
is_blank Plain octet = octet == 32 || octet == 9
is_blank Quoted octet = false
is_blank Escaped octet = false

-- a text without its spaces and tabs outside double quotes, starting in this state
abbrev pub without_blanks : Place → List ℕ → List ℕ
without_blanks place [] = []
without_blanks place (c ∷ cs) =
    if is_blank place c then without_blanks (place_after place c) cs
    else c ∷ without_blanks (place_after place c) cs

-- whether the mark is an element of a value
abbrev pub has_mark : List ℕ → List ℕ → Bool
has_mark mark value = list_any (λ element. bytes_eq (without_blanks Plain element) mark) (elements_from Plain value)

-- whether the mark is an element of a CDN-Loop field
abbrev pub has_come_back : List ℕ → List Field → Bool
has_come_back mark fields = list_any (has_mark mark) (values_of (codes "cdn-loop") fields)
