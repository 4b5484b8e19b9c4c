-- Days of the week, as `Mo-Fr,Su` (OSM wiki, Key:opening_hours/specification: weekday selectors).
use Rattle.std.specs.Prelude.{◌==◌, ◌&&◌, ◌||◌, ◌-◌, ℕ, List, [], ◌∷◌, Bool, cond, Option, Some, None, codes, nat_le}
use Rattle.std.specs.Prelude.{option_map}
use Rattle.std.specs.Option.{option_and_then}
use Rattle.std.specs.List.{list_any, position_from}
use Rattle.std.specs.Str.{bytes_eq}
use Rattle.opl_lexer.specs.Parts.{parts}
use Rattle.moment_rules.specs.declared.days.DayRange.{DayRange}
use Rattle.moment_rules.specs.Letters.{comma, hyphen}
use Rattle.moment_rules.specs.Shapes.{one_or_two, all_said}

abbrev pub day_names : List (List ℕ)
day_names = codes "Mo" ∷ codes "Tu" ∷ codes "We" ∷ codes "Th" ∷ codes "Fr" ∷ codes "Sa" ∷ codes "Su" ∷ []

-- the day of this name, from 0 for Monday to 6 for Sunday
abbrev pub day_named : List ℕ → Option ℕ
day_named name = position_from (bytes_eq name) 0 day_names

-- the day is the first, the last or between them; past Sunday where the last comes before the first
abbrev pub has_day : ℕ → DayRange → Bool
has_day day range =
    cond (nat_le range.first range.last) (nat_le range.first day && nat_le day range.last)
    (nat_le range.first day || nat_le day range.last)

-- one day, or two around a hyphen
abbrev pub range_between : List ℕ × Option (List ℕ) → Option DayRange
range_between (name, None) = option_map (λ day. record { first = day; last = day }) (day_named name)
range_between (first, Some last) =
    option_and_then (λ a. option_map (λ b. record { first = a; last = b }) (day_named last)) (day_named first)

abbrev pub day_range : List ℕ → Option DayRange
day_range text = option_and_then range_between (one_or_two (parts hyphen text))

-- days and ranges of days with commas between them
abbrev pub days_of : List ℕ → Option (List DayRange)
days_of text = all_said day_range (parts comma text)

-- the day is one of them
abbrev pub has_a_day : ℕ → List DayRange → Bool
has_a_day day ranges = list_any (has_day day) ranges

-- Sunday comes before Monday
abbrev pub day_before : ℕ → ℕ
day_before day = cond (day == 0) 6 (day - 1)
