-- Ranges of octets (RFC 9110, sections 14.1.2, 14.2 and 14.4). Octets are counted from 0.
-- 45 is a hyphen, 47 a slash, 61 an equals sign.
use Rattle.std.specs.Prelude.{ℕ, ◌+◌, ◌-◌, ◌^◌, List, ◌++◌, codes, decimal, length, take, drop, bytes_eq, min, nat_eq, nat_lt, ◌==◌, ◌&&◌, Option, Some, None, option_and_then, if◌then◌else◌}
use Rattle.std.specs.List.{position_or_len, starts_with}
use Rattle.http_header.specs.Token.{lowercase}
use Rattle.wire_octets.specs.Decimal.{is_numeral, value_after}
use Rattle.http_rules.specs.declared.ranges.ByteRange.{ByteRange}
use Rattle.http_rules.specs.declared.ranges.ByteRange.TheVariants.{Span, Rest, Suffix}
use Rattle.http_rules.specs.declared.conditions.StoredAnswer.{StoredAnswer}
use Rattle.http_rules.specs.declared.conditions.StoredAnswer.TheVariants.{Whole, Part, Unsatisfiable}
use Rattle.http_rules.specs.Fields.{Field}
use Rattle.http_rules.specs.Text.{trimmed, seconds}
use Rattle.http_rules.specs.Validators.{only_value}

-- the value of digits: no content has 2^64 - 1 octets, so this and every larger number count as one behind the end. Of two such numbers
-- the first counts as not after the last
abbrev pub number_of : List ℕ → ℕ
number_of digits = min (value_after 0 digits) (2 ^ 64 - 1)

-- int-range with both places: it is invalid if the last place is before the first
abbrev pub span_of : ℕ → ℕ → Option ByteRange
span_of first last = if nat_lt last first then None else Some (Span first last)

-- the range with these texts before and after its dash: first-last, first- or -length. Any other text, such as one with a
-- comma, is not a single range.
abbrev pub spec_between : List ℕ → List ℕ → Option ByteRange
spec_between first last =
    if is_numeral first && is_numeral last then span_of (number_of first) (number_of last)
    else if is_numeral first && length last == 0 then Some (Rest (number_of first))
    else if length first == 0 && is_numeral last then Some (Suffix (number_of last))
    else None

-- the range of a text with a dash, without surrounding white space
abbrev pub spec_of : List ℕ → Option ByteRange
spec_of text =
    let dash = position_or_len (λ c. c == 45) text in
    if dash == length text then None else spec_between (take dash text) (drop (dash + 1) text)

-- the only range of a Range value: the unit bytes, in any case, an equals sign and a range
abbrev pub range_of : List ℕ → Option ByteRange
range_of value =
    let end = position_or_len (λ c. c == 61) value in
    if end == length value then None
    else if bytes_eq (lowercase (take end value)) (codes "bytes") then spec_of (trimmed (drop (end + 1) value))
    else None

-- The part of a representation of some length that a range selects. An int-range is satisfiable if it begins before the end, and
-- a suffix if it is not empty; what goes beyond the representation is cut off. The suffix of a representation without octets is
-- the whole of it, which no Content-Range could name.
abbrev pub selected : ByteRange → ℕ → StoredAnswer
selected (Span first last) length =
    if nat_lt first length then Part first (min last (length - 1)) else Unsatisfiable
selected (Rest first) length = if nat_lt first length then Part first (length - 1) else Unsatisfiable
selected (Suffix count) length =
    if count == 0 then Unsatisfiable
    else if length == 0 then Whole
    else Part (length - count) (length - 1)

-- Content-Range with a part: its first and last place and the length of the whole
abbrev pub content_range : ℕ → ℕ → ℕ → List ℕ
content_range first last length = codes "bytes " ++ (decimal first ++ (codes "-" ++ (decimal last ++ (codes "/" ++ decimal length))))

-- Content-Range where no part is sent: the length of the whole
abbrev pub unsatisfied_range : ℕ → List ℕ
unsatisfied_range length = codes "bytes */" ++ decimal length

-- the length of the whole in a Content-Range value: the number behind the slash, in the unit bytes, capped at 2,147,483,648. An
-- asterisk there, for a length that is not known, is none
abbrev pub complete_in : List ℕ → Option ℕ
complete_in value =
    let end = position_or_len (λ c. c == 47) value in
    if end == length value then None
    else if starts_with nat_eq value (codes "bytes ") then seconds (drop (end + 1) value)
    else None

-- the length of the whole that a response is a part of
abbrev pub complete_length : List Field → Option ℕ
complete_length fields = option_and_then complete_in (only_value (codes "content-range") fields)
