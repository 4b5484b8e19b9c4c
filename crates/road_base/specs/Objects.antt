-- Object maps, and the visible bodies in them.
use Rattle.std.specs.Prelude.{ℕ, Option, Some, None}
use Rattle.std.specs.Ordering.{int_cmp}
use Rattle.std.specs.declared.cmp.Ordering.{Ordering}
use Rattle.std.specs.declared.cmp.Ordering.TheVariants.{Less, Greater}
use Rattle.std.specs.FinMap.{FinMap, get}
use Rattle.road_base.specs.declared.ids.NodeId.{NodeId}
use Rattle.road_base.specs.declared.ids.WayId.{WayId}
use Rattle.road_base.specs.declared.ids.RelationId.{RelationId}
use Rattle.road_base.specs.declared.ids.Key.{Key}
use Rattle.road_base.specs.declared.ids.Key.TheVariants.{Node as NodeKey, Way as WayKey, Relation as RelationKey}
use Rattle.road_base.specs.declared.objects.Node.{Node}
use Rattle.road_base.specs.declared.objects.Way.{Way}
use Rattle.road_base.specs.declared.objects.Relation.{Relation}
use Rattle.road_base.specs.declared.objects.Body.{Body}
use Rattle.road_base.specs.declared.objects.Body.TheVariants.{Node as NodeBody, Way as WayBody}
use Rattle.road_base.specs.declared.objects.Body.TheVariants.{Relation as RelationBody, Deleted}

-- nodes, ways, relations, then by number
abbrev pub key_cmp : Key → Key → Ordering
key_cmp (NodeKey a) (NodeKey b) = int_cmp a.0 b.0
key_cmp (NodeKey a) (WayKey b) = Less
key_cmp (NodeKey a) (RelationKey b) = Less
key_cmp (WayKey a) (NodeKey b) = Greater
key_cmp (WayKey a) (WayKey b) = int_cmp a.0 b.0
key_cmp (WayKey a) (RelationKey b) = Less
key_cmp (RelationKey a) (NodeKey b) = Greater
key_cmp (RelationKey a) (WayKey b) = Greater
key_cmp (RelationKey a) (RelationKey b) = int_cmp a.0 b.0

-- a version, and a visible body or a deletion
pub record Entry : Type 0 where
  pub version : ℕ
  pub body : Body

-- an object map: a key that was never named has no entry
abbrev pub Objects : Type 0
Objects = FinMap key_cmp Entry

abbrev pub body_in : Option Entry → Option Body
body_in None = None
body_in (Some e) = elim e.body [
  | NodeBody n ↦ Some (NodeBody n)
  | WayBody w ↦ Some (WayBody w)
  | RelationBody r
      ↦ Some (RelationBody r)
  | Deleted ↦ None
]

abbrev pub node_in : Option Body → Option Node
node_in None = None
node_in (Some b) = elim b [ NodeBody n ↦ Some n | WayBody w ↦ None | RelationBody r ↦ None | Deleted ↦ None ]

abbrev pub way_in : Option Body → Option Way
way_in None = None
way_in (Some b) = elim b [ NodeBody n ↦ None | WayBody w ↦ Some w | RelationBody r ↦ None | Deleted ↦ None ]

abbrev pub relation_in : Option Body → Option Relation
relation_in None = None
relation_in (Some b) = elim b [ NodeBody n ↦ None | WayBody w ↦ None | RelationBody r ↦ Some r | Deleted ↦ None ]

-- the visible body of a key, if it has one
unfoldable pub visible : Objects → Key → Option Body
visible M k = body_in (get M k)

-- the visible node, way or relation of that number
unfoldable pub node_of : Objects → NodeId → Option Node
node_of M id = node_in (visible M (NodeKey id))

unfoldable pub way_of : Objects → WayId → Option Way
way_of M id = way_in (visible M (WayKey id))

unfoldable pub relation_of : Objects → RelationId → Option Relation
relation_of M id = relation_in (visible M (RelationKey id))
