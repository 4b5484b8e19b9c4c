-- The profile for cars. It passes via ways in the order in which they are listed, and knows no zones: a way for
-- destination traffic is free to it.
use Rattle.std.specs.Prelude.{false}
use Rattle.road_model.specs.Rules.{Rules}
use Rattle.barrier_rules.specs.Barrier.{barrier_open}
use Rattle.access_profile.specs.Closing.{direction}
use Rattle.access_profile.specs.Highways.{is_turning_place}
use Rattle.access_profile.specs.Restricting.{rule}

abbrev pub motorcar_rules : Rules
motorcar_rules = record {
  number = 1;
  direction = direction;
  node_open = barrier_open;
  turns = is_turning_place;
  rule = rule;
  reverses = false;
  zone = λ tags d. false;
}
