-- The second profile for cars. It also takes via ways that are listed from the to way to the from way, and it knows the
-- directions that are open for destination traffic alone. All else is as the first one says.
use Rattle.std.specs.Prelude.{true}
use Rattle.road_model.specs.Rules.{Rules}
use Rattle.access_profile.specs.Motorcar.{motorcar_rules}
use Rattle.access_profile.specs.Zones.{is_zone}

abbrev pub motorcar2_rules : Rules
motorcar2_rules = record motorcar_rules { number = 2; reverses = true; zone = is_zone }
