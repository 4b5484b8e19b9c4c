-- The directions of ways that are open for destination traffic alone (OSM wiki, Tag:access=destination): only they who
-- begin or end their drive there may take them.
use Rattle.std.specs.Prelude.{Option, Some, None, Bool, true, false, ◌&&◌}
use Rattle.road_base.specs.declared.ids.Dir.{Dir}
use Rattle.road_base.specs.Tags.{TagList}
use Rattle.road_model.specs.Rules.{is_free}
use Rattle.access_profile.specs.declared.decisions.Permission.{Permission}
use Rattle.access_profile.specs.declared.decisions.Permission.TheVariants.{All, Destination, Nobody}
use Rattle.access_profile.specs.declared.decisions.Decision.{Decision}
use Rattle.access_profile.specs.Closing.{direction_by}
use Rattle.access_profile.specs.Decisions.{decision_of}

abbrev pub is_for_destination : Permission → Bool
is_for_destination All = false
is_for_destination Destination = true
is_for_destination Nobody = false

-- something decides, and it lets destination traffic alone pass
abbrev pub lets_destination : Option Decision → Bool
lets_destination None = false
lets_destination (Some c) = is_for_destination c.permission

-- where this decides on access: the direction is free, and open for destination traffic alone
unfoldable pub is_zone_by : TagList → Dir → Option Decision → Bool
is_zone_by tags d c = is_free (direction_by tags d c) && lets_destination c

-- where the deciding key of the tags decides
unfoldable pub is_zone : TagList → Dir → Bool
is_zone tags d = is_zone_by tags d (decision_of tags d)
