-- When a condition applies (OSM wiki, Conditional restrictions: conditions of the kind opening_hours).
use Rattle.std.specs.Prelude.{ℕ, List, Bool, true, Option, Some, None, option_map}
use Rattle.std.specs.Option.{option_and_then, option_or}
use Rattle.opl_lexer.specs.Parts.{parts}
use Rattle.moment_rules.specs.declared.days.DayRange.{DayRange}
use Rattle.moment_rules.specs.declared.moment.Moment.{Moment}
use Rattle.moment_rules.specs.declared.times.TimeRange.{TimeRange}
use Rattle.moment_rules.specs.Letters.{space}
use Rattle.moment_rules.specs.Shapes.{one_or_two}
use Rattle.moment_rules.specs.Days.{days_of, has_a_day, day_before}
use Rattle.moment_rules.specs.Times.{times_of, has_a_minute}

-- days, times, or both; None stands for all days, and for all times of the day
pub record Condition : Type 0 where
  pub days : Option (List DayRange)
  pub times : Option (List TimeRange)

abbrev pub on_days : List DayRange → Condition
on_days days = record { days = Some days; times = None }

abbrev pub at_times : List TimeRange → Condition
at_times times = record { days = None; times = Some times }

-- days or times alone, or days, one space and times
abbrev pub condition_between : List ℕ × Option (List ℕ) → Option Condition
condition_between (text, None) = option_or (option_map on_days (days_of text)) (option_map at_times (times_of text))
condition_between (first, Some second) =
    option_and_then (λ days. option_map (λ times. record { days = Some days; times = Some times }) (times_of second))
    (days_of first)

abbrev pub condition_of : List ℕ → Option Condition
condition_of text = option_and_then condition_between (one_or_two (parts space text))

-- the day is one that is meant
abbrev pub means_day : ℕ → Option (List DayRange) → Bool
means_day day None = true
means_day day (Some days) = has_a_day day days

-- a condition without times applies all day
abbrev pub applies_on : Bool → Bool → ℕ → Option (List TimeRange) → Bool
applies_on meant before minute None = meant
applies_on meant before minute (Some times) = has_a_minute meant before minute times

-- the condition applies at the moment
abbrev pub applies : Moment → Condition → Bool
applies at condition =
    applies_on (means_day at.day condition.days) (means_day (day_before at.day) condition.days) at.minute
    condition.times
