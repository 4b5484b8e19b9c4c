-- The profile of each number.
use Rattle.std.specs.Prelude.{ℕ, ◌==◌, ◌&&◌}
use Rattle.road_model.specs.Rules.{Rules}
use Rattle.access_profile.specs.Motorcar.{motorcar_rules}
use Rattle.access_profile.specs.Zones.{is_zone}

-- What the profile of this number answers, where it is one of a profile: those of `Motorcar` for 1, those of
-- `Motorcar2` for 2. All but its own two answers are the same for both.
abbrev pub rules_of : ℕ → Rules
rules_of n = record motorcar_rules { number = n; reverses = n == 2; zone = λ tags d. n == 2 && is_zone tags d }
