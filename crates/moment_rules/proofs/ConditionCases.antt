-- What a condition says at a moment, by what its words say.
use Rattle.std.specs.Prelude.{◌≡◌, ℕ, List, Bool, true, Option, Some, None, option_map, refl}
use Rattle.std.specs.Option.{option_and_then, option_or}
use Rattle.std.proofs.Common.{ap, ◌∙◌}
use Rattle.moment_rules.specs.declared.days.DayRange.{DayRange}
use Rattle.moment_rules.specs.declared.moment.Moment.{Moment}
use Rattle.moment_rules.specs.declared.times.TimeRange.{TimeRange}
use Rattle.moment_rules.specs.Days.{days_of, has_a_day, day_before}
use Rattle.moment_rules.specs.Times.{times_of, has_a_minute}
use Rattle.moment_rules.specs.Conditions.{Condition, on_days, at_times, condition_between, applies}

days_first : (at : Moment) (days : Option (List DayRange)) (times : Option (List TimeRange)) (meant : Bool)
    → option_map (has_a_day at.day) days ≡ Some meant
    → option_map (applies at) (option_or (option_map on_days days) (option_map at_times times)) ≡ Some meant
days_first at None times meant e = cc
days_first at (Some days) times meant e = e

times_next : (at : Moment) (days : Option (List DayRange)) (times : Option (List TimeRange))
    → option_map (has_a_day at.day) days ≡ None
    → option_map (applies at) (option_or (option_map on_days days) (option_map at_times times))
    ≡ option_map (has_a_minute true true at.minute) times
times_next at None None e = refl
times_next at None (Some times) e = refl
times_next at (Some days) times e = cc

-- days alone
pub days_alone : (at : Moment) (text : List ℕ) (meant : Bool)
    → option_map (has_a_day at.day) (days_of text) ≡ Some meant
    → option_map (applies at) (condition_between (text, None)) ≡ Some meant
days_alone at text meant e = days_first at (days_of text) (times_of text) meant e

-- times alone
pub times_alone : (at : Moment) (text : List ℕ) → option_map (has_a_day at.day) (days_of text) ≡ None
    → option_map (applies at) (condition_between (text, None))
    ≡ option_map (has_a_minute true true at.minute) (times_of text)
times_alone at text e = times_next at (days_of text) (times_of text) e

abbrev pub with_times : Option (List DayRange) → Option (List TimeRange) → Option Condition
with_times days times =
    option_and_then (λ ds. option_map (λ ts. record { days = Some ds; times = Some ts }) times) days

no_days : (at : Moment) (days : Option (List DayRange)) (times : Option (List TimeRange)) (day : ℕ)
    → option_map (has_a_day day) days ≡ None → option_map (applies at) (with_times days times) ≡ None
no_days at None times day e = refl
no_days at (Some days) times day e = cc

days_with_times : (at : Moment) (days : Option (List DayRange)) (times : Option (List TimeRange)) (meant before : Bool)
    → option_map (has_a_day at.day) days ≡ Some meant → option_map (has_a_day (day_before at.day)) days ≡ Some before
    → option_map (applies at) (with_times days times) ≡ option_map (has_a_minute meant before at.minute) times
days_with_times at None times meant before e f = cc
days_with_times at (Some days) None meant before e f = refl
days_with_times at (Some days) (Some times) meant before e f =
    let meant_is : has_a_day at.day days ≡ meant = cc in
    let before_is : has_a_day (day_before at.day) days ≡ before = cc in
    ap (λ b. Some (has_a_minute b (has_a_day (day_before at.day) days) at.minute times)) meant_is
    ∙ ap (λ b. Some (has_a_minute meant b at.minute times)) before_is

-- days and times, of which the first aren't days
pub both_without_days : (at : Moment) (first second : List ℕ) (day : ℕ)
    → option_map (has_a_day day) (days_of first) ≡ None
    → option_map (applies at) (condition_between (first, Some second)) ≡ None
both_without_days at first second day e = no_days at (days_of first) (times_of second) day e

-- days and times
pub both_alike : (at : Moment) (first second : List ℕ) (meant before : Bool)
    → option_map (has_a_day at.day) (days_of first) ≡ Some meant
    → option_map (has_a_day (day_before at.day)) (days_of first) ≡ Some before
    → option_map (applies at) (condition_between (first, Some second))
    ≡ option_map (has_a_minute meant before at.minute) (times_of second)
both_alike at first second meant before e f = days_with_times at (days_of first) (times_of second) meant before e f
