-- Under which rules a graph is shown.
use Rattle.std.specs.Prelude.{ℕ, Option, None, Some}
use Rattle.road_model.specs.Rules.{Rules}
use Rattle.access_profile.specs.Profiles.{rules_of}
use Rattle.moment_rules.specs.declared.moment.Moment.{Moment}
use Rattle.moment_rules.specs.AtMoment.{rules_at}

-- the rules under which a store's graph is shown: those of the profile of this number, at a moment those that hold then
abbrev pub rules_shown : Option Moment → ℕ → Rules
rules_shown None n = rules_of n
rules_shown (Some moment) n = rules_at n moment
