-- Where the parts of a date are in its text, `Sun, 06 Nov 1994 08:49:37 GMT`.
use Rattle.std.proofs.Common.{◌≡◌, ℕ, zero, suc, ◌+◌, ◌%◌, true, List, [], ◌∷◌, ◌++◌, get_or, refl, ap, sym, ◌∙◌, arith}
use Rattle.std.specs.Prelude.{codes}
use Rattle.std.specs.List.{list_all}
use Rattle.std.specs.Int.{IsInRange}
use Rattle.httpdate.specs.declared.date.HttpDate.{HttpDate}
use Rattle.httpdate.specs.declared.parts.Parts.{Parts}
use Rattle.httpdate.specs.Date.{date_text}
use Rattle.httpdate.specs.Text.{day_name, month_name, two_digits, four_digits, time_of_day}
use Rattle.access_log.specs.declared.stamp.Stamp.{Stamp}
use Rattle.access_log.specs.Escaped.{is_printable}
use Rattle.access_log.specs.Month.{month_digits}
use Rattle.access_log.specs.Stamp.{Shows}

-- a list of three octets
pub record IsTriple (xs : List ℕ) : Type 0 where
  pub a : ℕ
  pub b : ℕ
  pub c : ℕ
  pub all : xs ≡ a ∷ b ∷ c ∷ []

pub day_triple : (n : ℕ) → IsInRange 1 7 n → IsTriple (day_name n)
day_triple (suc zero) h = record { a = 77; b = 111; c = 110; all = refl }
day_triple (suc (suc zero)) h = record { a = 84; b = 117; c = 101; all = refl }
day_triple (suc (suc (suc zero))) h = record { a = 87; b = 101; c = 100; all = refl }
day_triple (suc (suc (suc (suc zero)))) h = record { a = 84; b = 104; c = 117; all = refl }
day_triple (suc (suc (suc (suc (suc zero))))) h = record { a = 70; b = 114; c = 105; all = refl }
day_triple (suc (suc (suc (suc (suc (suc zero)))))) h = record { a = 83; b = 97; c = 116; all = refl }
day_triple (suc (suc (suc (suc (suc (suc (suc zero))))))) h = record { a = 83; b = 117; c = 110; all = refl }
day_triple zero h = absurd (omega arith)
day_triple (suc (suc (suc (suc (suc (suc (suc (suc k)))))))) h = absurd (omega arith)

-- the name of a month: three letters, by which its number is found
pub record IsMonthName (n : ℕ) : Type 0 where
  pub a : ℕ
  pub b : ℕ
  pub c : ℕ
  pub all : month_name n ≡ a ∷ b ∷ c ∷ []
  pub number : month_digits (a ∷ b ∷ c ∷ []) ≡ two_digits n
  pub clean : list_all is_printable (month_name n) ≡ true

pub month_names : (n : ℕ) → IsInRange 1 12 n → IsMonthName n
month_names (suc zero) h = record { a = 74; b = 97; c = 110; all = refl; number = refl; clean = refl }
month_names (suc (suc zero)) h = record { a = 70; b = 101; c = 98; all = refl; number = refl; clean = refl }
month_names (suc (suc (suc zero))) h = record { a = 77; b = 97; c = 114; all = refl; number = refl; clean = refl }
month_names (suc (suc (suc (suc zero)))) h = record { a = 65; b = 112; c = 114; all = refl; number = refl; clean = refl }
month_names (suc (suc (suc (suc (suc zero))))) h = record { a = 77; b = 97; c = 121; all = refl; number = refl; clean = refl }
month_names (suc (suc (suc (suc (suc (suc zero)))))) h = record { a = 74; b = 117; c = 110; all = refl; number = refl; clean = refl }
month_names (suc (suc (suc (suc (suc (suc (suc zero))))))) h = record { a = 74; b = 117; c = 108; all = refl; number = refl; clean = refl }
month_names (suc (suc (suc (suc (suc (suc (suc (suc zero)))))))) h = record { a = 65; b = 117; c = 103; all = refl; number = refl; clean = refl }
month_names (suc (suc (suc (suc (suc (suc (suc (suc (suc zero))))))))) h = record { a = 83; b = 101; c = 112; all = refl; number = refl; clean = refl }
month_names (suc (suc (suc (suc (suc (suc (suc (suc (suc (suc zero)))))))))) h = record { a = 79; b = 99; c = 116; all = refl; number = refl; clean = refl }
month_names (suc (suc (suc (suc (suc (suc (suc (suc (suc (suc (suc zero))))))))))) h = record { a = 78; b = 111; c = 118; all = refl; number = refl; clean = refl }
month_names (suc (suc (suc (suc (suc (suc (suc (suc (suc (suc (suc (suc zero)))))))))))) h = record { a = 68; b = 101; c = 99; all = refl; number = refl; clean = refl }
month_names zero h = absurd (omega arith)
month_names (suc (suc (suc (suc (suc (suc (suc (suc (suc (suc (suc (suc (suc k))))))))))))) h = absurd (omega arith)

-- the text of a date whose names are these
abbrev put : List ℕ → List ℕ → Parts → List ℕ
put day month p =
    day ++ codes ", " ++ two_digits p.day ++ codes " " ++ month ++ codes " " ++ four_digits p.year ++ codes " "
    ++ time_of_day p ++ codes " GMT"

-- what stands at the places of a stamp, with the number of the month
abbrev pub stamp_in : List ℕ → List ℕ → Stamp
stamp_in text month = record {
  year = get_or text 12 0 ∷ get_or text 13 0 ∷ get_or text 14 0 ∷ get_or text 15 0 ∷ [];
  month = month;
  month_name = get_or text 8 0 ∷ get_or text 9 0 ∷ get_or text 10 0 ∷ [];
  day = get_or text 5 0 ∷ get_or text 6 0 ∷ [];
  time = get_or text 17 0 ∷ get_or text 18 0 ∷ get_or text 19 0 ∷ get_or text 20 0 ∷ get_or text 21 0 ∷ get_or text 22 0
      ∷ get_or text 23 0 ∷ get_or text 24 0 ∷ [];
}

weekday_range : (w days : ℕ) → w ≡ (days + 3) % 7 + 1 → IsInRange 1 7 w
weekday_range w days e = (omega arith, omega arith)

shown_in : (date : HttpDate) (day : IsTriple (day_name date.parts.wday)) (named : IsMonthName date.parts.mon) (text month : List ℕ) → text ≡ put (day.a ∷ day.b ∷ day.c ∷ []) (named.a ∷ named.b ∷ named.c ∷ []) date.parts → month ≡ month_digits (get_or text 8 0 ∷ get_or text 9 0 ∷ get_or text 10 0 ∷ []) → Shows date (stamp_in text month)
shown_in date day named text month e m =
    let at : month ≡ two_digits date.parts.mon = m ∙ ap (λ (t : List ℕ). month_digits (get_or t 8 0 ∷ get_or t 9 0 ∷ get_or t 10 0 ∷ [])) e ∙ named.number in
    record {
      year = ap (λ (t : List ℕ). get_or t 12 0 ∷ get_or t 13 0 ∷ get_or t 14 0 ∷ get_or t 15 0 ∷ []) e;
      month = at;
      month_name = ap (λ (t : List ℕ). get_or t 8 0 ∷ get_or t 9 0 ∷ get_or t 10 0 ∷ []) e ∙ sym named.all;
      day = ap (λ (t : List ℕ). get_or t 5 0 ∷ get_or t 6 0 ∷ []) e;
      time = ap (λ (t : List ℕ). get_or t 17 0 ∷ get_or t 18 0 ∷ get_or t 19 0 ∷ get_or t 20 0 ∷ get_or t 21 0 ∷ get_or t 22 0
          ∷ get_or t 23 0 ∷ get_or t 24 0 ∷ []) e;
    }

pub places : (date : HttpDate) (text month : List ℕ) → text ≡ date_text date → month ≡ month_digits (get_or text 8 0 ∷ get_or text 9 0 ∷ get_or text 10 0 ∷ []) → Shows date (stamp_in text month)
places date text month e m =
    let day = day_triple date.parts.wday (weekday_range _ _ date.right_day) in
    let named = month_names date.parts.mon date.civil.1 in
    let spelled : date_text date ≡ put (day.a ∷ day.b ∷ day.c ∷ []) (named.a ∷ named.b ∷ named.c ∷ []) date.parts =
    ap (λ (xs : List ℕ). put xs (month_name date.parts.mon) date.parts) day.all
    ∙ ap (λ (xs : List ℕ). put (day.a ∷ day.b ∷ day.c ∷ []) xs date.parts) named.all in
    shown_in date day named text month (e ∙ spelled) m
