-- Moments of civil time, as `2024-05-06T23:00` (ISO 8601, without seconds).
use Rattle.std.specs.Prelude.{◌≡◌, ◌≤◌, ◌+◌, ◌*◌, ℕ, List, true, pos, codes}
use Rattle.jiff_core.specs.Calendar.{IsDate, days_from_civil, weekday_number}
use Rattle.moment_rules.specs.Shapes.{has_shape, number_at}

abbrev pub year_of : List ℕ → ℕ
year_of text = number_at 0 4 text

abbrev pub month_of : List ℕ → ℕ
month_of text = number_at 5 2 text

-- the day of the month
abbrev pub date_of : List ℕ → ℕ
date_of text = number_at 8 2 text

abbrev pub hour_of : List ℕ → ℕ
hour_of text = number_at 11 2 text

-- the minute of the hour
abbrev pub minute_of : List ℕ → ℕ
minute_of text = number_at 14 2 text

-- the text of a moment: all digits given, a date that `jiff` has, of the years 0000 to 9999, and a time of day
pub record IsMoment (text : List ℕ) : Type 0 where
  pub shape : has_shape (codes "0000-00-00T00:00") text ≡ true
  pub date : IsDate (pos (year_of text)) (pos (month_of text)) (pos (date_of text))
  pub hour : hour_of text ≤ 23
  pub minute : minute_of text ≤ 59

-- the weekday that `jiff` gives to the date, from 0 for Monday to 6 for Sunday
abbrev pub weekday_of : List ℕ → ℕ
weekday_of text = weekday_number (days_from_civil (pos (year_of text)) (month_of text) (date_of text))

-- the minute of the day
abbrev pub minute_of_day : List ℕ → ℕ
minute_of_day text = 60 * hour_of text + minute_of text
