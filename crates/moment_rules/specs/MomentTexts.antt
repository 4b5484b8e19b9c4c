-- The moment that a text is, as a function of the text.
use Rattle.std.specs.Prelude.{◌≡◌, ◌+◌, ◌*◌, ◌≤◌, ◌&&◌, ℕ, List, Bool, true, false, Option, Some, None, pos, nat_lt}
use Rattle.std.specs.Prelude.{refl, codes}
use Rattle.std.proofs.Common.{arith}
use Rattle.std.proofs.lemmas.Bool.{false≢true}
use Rattle.std.proofs.lemmas.Bool.Decides.{nat_tests}
use Rattle.jiff_core.specs.Calendar.{days_in_month, days_from_civil}
use Rattle.jiff_core.proofs.CalendarLemmas.{weekday_number_bound}
use Rattle.moment_rules.specs.declared.moment.Moment.{Moment}
use Rattle.moment_rules.specs.Shapes.{has_shape}
use Rattle.moment_rules.specs.Moments.{year_of, month_of, date_of, hour_of, minute_of, weekday_of, minute_of_day}

-- the calendar has this day, in one of the years 0 to 9999
abbrev pub is_date : ℕ → ℕ → ℕ → Bool
is_date year month day = nat_lt year 10000 && (nat_lt 0 month && (nat_lt month 13
    && (nat_lt 0 day && nat_lt day (days_in_month (pos year) month + 1))))

-- the text has the form of a moment's, the calendar has its date, and the day its time
abbrev pub is_moment : List ℕ → Bool
is_moment text = has_shape (codes "0000-00-00T00:00") text
    && (is_date (year_of text) (month_of text) (date_of text)
    && (nat_lt (hour_of text) 24 && nat_lt (minute_of text) 60))

-- what the type of a moment says of its parts holds of such a text
pub day_small : (text : List ℕ) → weekday_of text ≤ 6
day_small text =
    omega (arith, weekday_number_bound (days_from_civil (pos (year_of text)) (month_of text) (date_of text)))

both : (a b : Bool) → (a && b) ≡ true → (a ≡ true) × (b ≡ true)
both true b is = (refl, is)
both false b is = absurd (false≢true is)

time_small : (h m : ℕ) → nat_lt h 24 ≡ true → nat_lt m 60 ≡ true → 60 * h + m ≤ 1439
time_small h m hour minute = grind (arith, nat_tests)

pub minute_small : (text : List ℕ) → is_moment text ≡ true → minute_of_day text ≤ 1439
minute_small text is =
    let shape = both (has_shape (codes "0000-00-00T00:00") text) _ is in
    let date = both (is_date (year_of text) (month_of text) (date_of text)) _ shape.1 in
    let time = both (nat_lt (hour_of text) 24) (nat_lt (minute_of text) 60) date.1 in
    time_small (hour_of text) (minute_of text) time.0 time.1

abbrev pub moment_if : (text : List ℕ) (is : Bool) → is_moment text ≡ is → Option Moment
moment_if text true is = Some (record {
  day = weekday_of text;
  minute = minute_of_day text;
  day_in = day_small text;
  minute_in = minute_small text is;
})
moment_if text false is = None

-- its weekday and the minute of its day, where the text is a moment's
unfoldable pub moment_of : List ℕ → Option Moment
moment_of text = moment_if text (is_moment text) refl
