-- When the objects of a cell have all that a way's block rests on.
use Rattle.std.specs.Prelude.{◌≡◌, ℕ, Some, Contains, map, IsTrue}
use Rattle.road_base.specs.declared.ids.NodeId.{NodeId}
use Rattle.road_base.specs.declared.ids.WayId.{WayId}
use Rattle.road_base.specs.declared.ids.RelationId.{RelationId}
use Rattle.road_base.specs.declared.ids.Key.{Key}
use Rattle.road_base.specs.declared.ids.Key.TheVariants.{Node as NodeKey, Way as WayKey, Relation as RelationKey}
use Rattle.road_base.specs.declared.location.Location.{Location}
use Rattle.road_base.specs.declared.objects.Node.{Node}
use Rattle.road_base.specs.declared.objects.Way.{Way}
use Rattle.road_base.specs.declared.objects.Relation.{Relation}
use Rattle.road_base.specs.declared.objects.Body.{Body}
use Rattle.road_base.specs.Objects.{Objects, visible, node_of, way_of, relation_of}
use Rattle.road_model.specs.Rules.{has_highway, is_restriction}
use Rattle.road_model.specs.Links.{IsWithin, IsNear, RefersTo, IsLink}
use Rattle.map_cells.specs.declared.area.Area.{Area}
use Rattle.map_cells.specs.Areas.{is_in}

-- ---- what an extract keeps

-- the node is visible, and located in the area
pub record IsLocatedIn (M : Objects) (area : Area) (n : NodeId) : Type 0 where
  pub body : Node
  pub is : node_of M n ≡ Some body
  pub place : Location
  pub located : body.location ≡ Some place
  pub inside : IsTrue (is_in area place)

-- the way is visible, and one of its nodes is located in the area
pub record IsInner (M : Objects) (area : Area) (w : WayId) : Type 0 where
  pub body : Way
  pub is : way_of M w ≡ Some body
  pub node : NodeId
  pub named : Contains body.refs node
  pub inside : IsLocatedIn M area node

-- the relation is visible, and names the object
pub record NamesObject (M : Objects) (r : RelationId) (k : Key) : Type 0 where
  pub body : Relation
  pub is : relation_of M r ≡ Some body
  pub named : Contains (map (λ m. m.item) body.members) k

-- whatever is visible in C is so in M, unchanged
abbrev pub IsPartOf : Objects → Objects → Type 0
IsPartOf C M = (k : Key) (body : Body) → visible C k ≡ Some body → visible M k ≡ Some body

-- C has of the object what M has
abbrev pub Keeps : Objects → Objects → Key → Type 0
Keeps M C k = visible C k ≡ visible M k

-- C is a cell of M for the area: a part of M that keeps each node located in the area, each way with such a node, each
-- relation that names such a node or way, and the nodes of each way that it has.
pub record IsCell (M C : Objects) (area : Area) : Type 0 where
  pub part : IsPartOf C M
  pub nodes : (n : NodeId) → IsLocatedIn M area n → Keeps M C (NodeKey n)
  pub ways : (w : WayId) → IsInner M area w → Keeps M C (WayKey w)
  pub of_nodes : (r : RelationId) (n : NodeId) → IsLocatedIn M area n → NamesObject M r (NodeKey n)
      → Keeps M C (RelationKey r)
  pub of_ways : (r : RelationId) (w : WayId) → IsInner M area w → NamesObject M r (WayKey w) → Keeps M C (RelationKey r)
  pub lines : (w : WayId) (body : Way) (n : NodeId) → way_of C w ≡ Some body → Contains body.refs n
      → Keeps M C (NodeKey n)

-- ---- what can be told of a cell alone

-- the key is a relation's, or the cell has the object
abbrev pub IsThere : Objects → Key → Type 0
IsThere C (RelationKey r) = Unit {0}
IsThere C k = (body : Body) × (visible C k ≡ Some body)

-- the relation is visible, and the cell has each node and way that it names
pub record HasItsMembers (C : Objects) (r : RelationId) : Type 0 where
  pub body : Relation
  pub is : relation_of C r ≡ Some body
  pub members : (k : Key) → Contains (map (λ m. m.item) body.members) k → IsThere C k

-- All that is linked to the key in the map is in the cell: a node is located in the area, one of a way's nodes is, or a
-- relation's nodes and ways are there.
abbrev pub IsClosed : Objects → Area → Key → Type 0
IsClosed C area (NodeKey n) = IsLocatedIn C area n
IsClosed C area (WayKey w) = IsInner C area w
IsClosed C area (RelationKey r) = HasItsMembers C r

-- one link less than the link radius
abbrev pub closed_radius : ℕ
closed_radius = 7

-- each key within these links of the way is closed
abbrev pub Passes : Objects → Area → WayId → Type 0
Passes C area w = (k : Key) → IsWithin C closed_radius k (WayKey w) → IsClosed C area k

-- ---- cuts by links

-- C is a part of M, and keeps all that is within the link radius of the way
pub record IsCut (M C : Objects) (w : WayId) : Type 0 where
  pub part : IsPartOf C M
  pub near : (k : Key) → IsNear M k w → Keeps M C k

-- R is the part of M that has to do with roads: it keeps the visible ways with the key `highway`, the visible
-- restrictions, and the nodes and ways that these name. What relations a restriction names is nothing to roads.
pub record AreRoads (M R : Objects) : Type 0 where
  pub part : IsPartOf R M
  pub ways : (w : WayId) (body : Way) → way_of M w ≡ Some body → IsTrue (has_highway body.tags)
      → Keeps M R (WayKey w)
  pub restrictions : (r : RelationId) (body : Relation) → relation_of M r ≡ Some body
      → IsTrue (is_restriction body.tags) → Keeps M R (RelationKey r)
  pub nodes : (w : WayId) (n : NodeId) → RefersTo M w n → Keeps M R (NodeKey n)
  pub members : (r : RelationId) (k : Key) → IsLink M (RelationKey r) k → Keeps M R k
