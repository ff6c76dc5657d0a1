-- The date of a line.
use Rattle.std.specs.Prelude.{◌≡◌, ℕ, ◌+◌, ◌/◌, ◌%◌, List, [], ◌∷◌, ◌++◌, codes}
use Rattle.httpdate.specs.declared.date.HttpDate.{HttpDate}
use Rattle.httpdate.specs.Text.{two_digits, four_digits, month_name, time_of_day}
use Rattle.access_log.specs.declared.stamp.Stamp.{Stamp}

-- the stamp has the digits and the month's name of this date
pub record Shows (date : HttpDate) (stamp : Stamp) : Type 0 where
  pub year : stamp.year ≡ four_digits date.parts.year
  pub month : stamp.month ≡ two_digits date.parts.mon
  pub month_name : stamp.month_name ≡ month_name date.parts.mon
  pub day : stamp.day ≡ two_digits date.parts.day
  pub time : stamp.time ≡ time_of_day date.parts

-- as in `25/Nov/2026:06:14:12 +0000`
unfoldable pub common_time : Stamp → List ℕ
common_time stamp =
    stamp.day ++ codes "/" ++ stamp.month_name ++ codes "/" ++ stamp.year ++ codes ":" ++ stamp.time ++ codes " +0000"

-- a number below 1000, in three digits
abbrev pub three_digits : ℕ → List ℕ
three_digits n = (48 + n / 100) ∷ (48 + n / 10 % 10) ∷ (48 + n % 10) ∷ []

-- RFC 3339, with the milliseconds of the second, as in `2026-11-25T06:14:12.345Z`
unfoldable pub json_time : Stamp → ℕ → List ℕ
json_time stamp millis =
    stamp.year ++ codes "-" ++ stamp.month ++ codes "-" ++ stamp.day ++ codes "T" ++ stamp.time ++ codes "."
    ++ three_digits (millis % 1000) ++ codes "Z"
