-- What the tags of a node say to one who comes there.
use Rattle.std.specs.Prelude.{◌≡◌, Bool, not, ◌&&◌, ◌||◌}
use Rattle.road_base.specs.Objects.{Objects}
use Rattle.road_model.specs.Rules.{Rules}
use Rattle.road_model.specs.Driving.{shut, turning_place}
use Rattle.way_lines.specs.declared.node_rules.NodeRules.{NodeRules}

-- what is told of the node's tags is so
pub record HasRules (M : Objects) (P : Rules) (r : NodeRules) : Type 0 where
  pub shut_is : r.is_shut ≡ shut M P r.node
  pub turning_is : r.is_turning_place ≡ turning_place M P r.node

-- one may turn round at a place to turn, where nothing goes through, and where nothing else leaves
abbrev pub may_turn : NodeRules → Bool → Bool
may_turn r is_only = r.is_turning_place || (r.is_shut || is_only)

-- nothing stops or turns who drives on
abbrev pub drives_on : NodeRules → Bool
drives_on r = not r.is_shut && not r.is_turning_place
