-- Text helpers and delta-seconds (RFC 9111, section 1.2.2).
-- 34 is a double quote.
use Rattle.std.specs.Prelude.{ℕ, ◌-◌, List, length, take, drop, min, slice_index, slice_range, nat_le, ◌==◌, ◌&&◌, Option, Some, None, if◌then◌else◌}
use Rattle.std.specs.List.{prefix_len, suffix_len}
use Rattle.std.specs.Char.{is_ascii_whitespace}
use Rattle.wire_octets.specs.Decimal.{is_numeral, value_after}

-- a text without white space at either end
abbrev pub trimmed : List ℕ → List ℕ
trimmed text =
    let rest = drop (prefix_len is_ascii_whitespace text) text in
    take (length rest - suffix_len is_ascii_whitespace rest) rest

-- a text without a pair of enclosing double quotes, or the text itself if it has none
abbrev pub unquoted : List ℕ → List ℕ
unquoted text =
    if nat_le 2 (length text) && (slice_index text 0 == 34 && slice_index text (length text - 1) == 34)
    then slice_range text 1 (length text - 1) else text

-- a decimal number of seconds, capped at 2,147,483,648
abbrev pub seconds : List ℕ → Option ℕ
seconds text = if is_numeral text then Some (min (value_after 0 text) 2147483648) else None
