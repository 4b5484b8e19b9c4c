-- Where one may drive, and what may follow what.
use Rattle.std.specs.Prelude.{◌≡◌, ◌≢◌, ◌+◌, Option, Some, None, Bool, false, not, ◌&&◌, ◌||◌, is_some, IsTrue, IsFalse}
use Rattle.road_base.specs.declared.ids.NodeId.{NodeId}
use Rattle.road_base.specs.declared.ids.WayId.{WayId}
use Rattle.road_base.specs.declared.ids.Step.{Step}
use Rattle.road_base.specs.declared.ids.Dir.{Dir}
use Rattle.road_base.specs.declared.ids.Dir.TheVariants.{Forward, Backward}
use Rattle.road_base.specs.declared.objects.Way.{Way}
use Rattle.road_base.specs.declared.objects.Node.{Node}
use Rattle.road_base.specs.Objects.{Objects, way_of, node_of}
use Rattle.road_model.specs.Rules.{Rules, is_free}
use Rattle.road_model.specs.Lines.{node_at, tail_of, head_of}

abbrev pub open_way : Rules → Option Way → Dir → Bool
open_way P None d = false
open_way P (Some w) d = is_free (P.direction w.tags d)

-- the way is visible and the direction is free
unfoldable pub is_open : Objects → Rules → WayId → Dir → Bool
is_open M P w d = open_way P (way_of M w) d

abbrev pub zone_way : Rules → Option Way → Dir → Bool
zone_way P None d = false
zone_way P (Some w) d = P.zone w.tags d

-- the way is visible, and the profile marks its tags in the direction as those of a zone
unfoldable pub is_marked : Objects → Rules → WayId → Dir → Bool
is_marked M P w d = zone_way P (way_of M w) d

-- a road: the way is visible and some direction is free
abbrev pub is_road : Objects → Rules → WayId → Bool
is_road M P w = is_open M P w Forward || is_open M P w Backward

abbrev pub node_located : Option Node → Bool
node_located None = false
node_located (Some n) = is_some n.location

-- the node is visible with a location
abbrev pub located : Objects → Option NodeId → Bool
located M None = false
located M (Some v) = node_located (node_of M v)

abbrev pub node_shut : Rules → Option Node → Bool
node_shut P None = false
node_shut P (Some n) = not (P.node_open n.tags)

-- the node is visible and isn't open, as at a bollard (OSM wiki, Key:barrier)
abbrev pub shut : Objects → Rules → NodeId → Bool
shut M P v = node_shut P (node_of M v)

abbrev pub node_turns : Rules → Option Node → Bool
node_turns P None = false
node_turns P (Some n) = P.turns n.tags

-- the node is visible and a place to turn round
abbrev pub turning_place : Objects → Rules → NodeId → Bool
turning_place M P v = node_turns P (node_of M v)

-- the way is open in the step's direction, and both nodes are visible with locations
unfoldable pub drivable : Objects → Rules → Step → Bool
drivable M P s = is_open M P s.way s.dir && (located M (node_at M s.way s.index)
    && located M (node_at M s.way (s.index + 1)))

-- the step is drivable and leaves the node
pub record Leaves (M : Objects) (P : Rules) (v : NodeId) (s : Step) : Type 0 where
  pub drives : IsTrue (drivable M P s)
  pub tail : tail_of M s ≡ Some v

-- turning round at v by step t is allowed
pub data MayTurn (M : Objects) (P : Rules) (v : NodeId) (t : Step) : Type 0 where
  -- at a place to turn round
  AtPlace : IsTrue (turning_place M P v) → MayTurn M P v t
  -- where nothing goes through
  AtShut : IsTrue (shut M P v) → MayTurn M P v t
  -- at a dead end: t is the only drivable step that leaves v
  AtDeadEnd : Leaves M P v t → ((u : Step) → Leaves M P v u → u ≡ t) → MayTurn M P v t

-- Step t may follow step s: it begins where s ends. To go back to where s began, also over another way, is a reversal,
-- which wants leave to turn; to go on wants a node that isn't shut.
pub record Passes (M : Objects) (P : Rules) (s t : Step) : Type 0 where
  pub node : NodeId
  pub from : head_of M s ≡ Some node
  pub to : tail_of M t ≡ Some node
  pub back : head_of M t ≡ tail_of M s → MayTurn M P node t
  pub on : head_of M t ≢ tail_of M s → IsFalse (shut M P node)
