-- Times of day, as `22:00-06:00,12:00-13:00` (OSM wiki, Key:opening_hours/specification: time selectors).
use Rattle.std.specs.Prelude.{◌==◌, ◌&&◌, ◌||◌, ◌+◌, ◌*◌, ℕ, List, Bool, cond, Option, Some, None, codes, nat_le}
use Rattle.std.specs.Prelude.{nat_lt}
use Rattle.std.specs.Option.{option_and_then}
use Rattle.std.specs.List.{list_any}
use Rattle.opl_lexer.specs.Parts.{parts}
use Rattle.moment_rules.specs.declared.times.TimeRange.{TimeRange}
use Rattle.moment_rules.specs.Letters.{comma, hyphen}
use Rattle.moment_rules.specs.Shapes.{has_shape, number_at, one_or_two, all_said}

-- the minute of the day
abbrev pub minute_read : List ℕ → ℕ
minute_read text = 60 * number_at 0 2 text + number_at 3 2 text

-- a time of day from 00:00 up to some latest minute
abbrev pub clock_time : ℕ → List ℕ → Option ℕ
clock_time latest text =
    cond (has_shape (codes "00:00") text && nat_le (number_at 3 2 text) 59 && nat_le (minute_read text) latest)
    (Some (minute_read text)) None

-- from a minute on, until another one, which isn't in it; over midnight where that comes before the first. The two
-- differ.
abbrev pub range_of : ℕ → ℕ → Option TimeRange
range_of from until = cond (from == until) None (Some (record { from = from; until = until }))

-- the first is from 00:00 to 23:59, the second from 00:00 to 24:00
abbrev pub times_between : List ℕ × Option (List ℕ) → Option TimeRange
times_between (text, None) = None
times_between (from, Some until) =
    option_and_then (λ a. option_and_then (range_of a) (clock_time 1440 until)) (clock_time 1439 from)

abbrev pub time_range : List ℕ → Option TimeRange
time_range text = option_and_then times_between (one_or_two (parts hyphen text))

-- ranges of times with commas between them
abbrev pub times_of : List ℕ → Option (List TimeRange)
times_of text = all_said time_range (parts comma text)

-- The minute lies in the range, which begins on a day that is meant. Over midnight the range ends on the day behind: so
-- it is asked whether the day itself is meant, and whether the day before it is.
abbrev pub has_minute : Bool → Bool → ℕ → TimeRange → Bool
has_minute meant before minute range =
    cond (nat_lt range.from range.until) (meant && (nat_le range.from minute && nat_lt minute range.until))
    ((meant && nat_le range.from minute) || (before && nat_lt minute range.until))

abbrev pub has_a_minute : Bool → Bool → ℕ → List TimeRange → Bool
has_a_minute meant before minute ranges = list_any (has_minute meant before minute) ranges
