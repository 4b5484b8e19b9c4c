-- The ways that may carry roads: the visible ones with the key `highway`.
use Rattle.std.specs.Prelude.{◌≡◌, List, Option, Some, None, cond, filter_map, Contains, IsTrue}
use Rattle.std.specs.FinMap.{entries}
use Rattle.road_base.specs.declared.ids.WayId.{WayId}
use Rattle.road_base.specs.declared.ids.Key.{Key}
use Rattle.road_base.specs.declared.ids.Key.TheVariants.{Node as NodeKey, Way as WayKey, Relation as RelationKey}
use Rattle.road_base.specs.declared.objects.Way.{Way}
use Rattle.road_base.specs.declared.objects.Body.{Body}
use Rattle.road_base.specs.declared.objects.Body.TheVariants.{Node as NodeBody, Way as WayBody}
use Rattle.road_base.specs.declared.objects.Body.TheVariants.{Relation as RelationBody, Deleted}
use Rattle.road_base.specs.Objects.{Objects, way_of}
use Rattle.road_model.specs.declared.blocks.Block.{Block}
use Rattle.road_model.specs.Rules.{Rules, has_highway}
use Rattle.ordered_lists.specs.Orders.{rises}
use Rattle.road_model.specs.Orders.{way_cmp}
use Rattle.road_model.specs.Blocks.{IsRoadBlock}

-- the way is visible and has the key `highway`
pub record IsHighway (M : Objects) (w : WayId) : Type 0 where
  pub body : Way
  pub visible : way_of M w ≡ Some body
  pub tagged : IsTrue (has_highway body.tags)

-- the way's number, if its body is visible and has the key `highway`
abbrev pub visible_highway : WayId → Body → Option WayId
visible_highway w (NodeBody n) = None
visible_highway w (WayBody body) = cond (has_highway body.tags) (Some w) None
visible_highway w (RelationBody r) = None
visible_highway w Deleted = None

-- the same of a key, which may be another object's
abbrev pub highway_of : Key → Body → Option WayId
highway_of (NodeKey n) body = None
highway_of (WayKey w) body = visible_highway w body
highway_of (RelationKey r) body = None

-- the visible ways with the key `highway` among the objects, in the order of their numbers
abbrev pub highways : Objects → List WayId
highways M = filter_map (λ e. highway_of e.0 e.1.body) (entries M)

-- the ways ascend, and each way with pieces is among them
pub record AreRoadWays (M : Objects) (P : Rules) (ways : List WayId) : Type 0 where
  pub ascending : IsTrue (rises way_cmp ways)
  pub all : (block : Block) → IsRoadBlock M P block → Contains ways block.way
