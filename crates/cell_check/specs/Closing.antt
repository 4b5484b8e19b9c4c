-- What tells whether a key is closed.
use Rattle.std.specs.Prelude.{◌≡◌, ◌⊎◌, ◌++◌, Bool, true, false, List, Some, Contains}
use Rattle.road_base.specs.declared.ids.NodeId.{NodeId}
use Rattle.road_base.specs.declared.ids.Key.{Key}
use Rattle.road_base.specs.declared.objects.Body.{Body}
use Rattle.road_base.specs.declared.objects.Body.TheVariants.{Node as NodeBody, Way as WayBody}
use Rattle.road_base.specs.declared.objects.Body.TheVariants.{Relation as RelationBody, Deleted}
use Rattle.road_base.specs.Objects.{Objects, visible}
use Rattle.map_cells.specs.declared.area.Area.{Area}
use Rattle.map_cells.specs.Cells.{IsLocatedIn, IsThere, IsClosed}

-- the key has a visible body
abbrev pub IsVisible : Objects → Key → Type 0
IsVisible M k = (body : Body) × (visible M k ≡ Some body)

-- whether the body is visible
abbrev pub is_shown : Body → Bool
is_shown (NodeBody n) = true
is_shown (WayBody w) = true
is_shown (RelationBody r) = true
is_shown Deleted = false

-- one of the nodes is located in the area
abbrev pub HasNodeIn : Objects → Area → List NodeId → Type 0
HasNodeIn M area nodes = (n : NodeId) × Contains nodes n × IsLocatedIn M area n

-- each node and way among the keys is there
abbrev pub AreThere : Objects → List Key → Type 0
AreThere M keys = (k : Key) → Contains keys k → IsThere M k

-- none of those that are open is closed, and each of the keys is closed or one of them
pub record AreOpenAmong (M : Objects) (area : Area) (keys open_keys : List Key) : Type 0 where
  pub none : (k : Key) → Contains open_keys k → IsClosed M area k → ⊥
  pub all : (k : Key) → Contains keys k → IsClosed M area k ⊎ Contains open_keys k

-- to keys that are open, before, those of the keys were added that aren't closed
abbrev pub AddsOpen : Objects → Area → List Key → List Key → List Key → Type 0
AddsOpen M area keys before after = (judged : List Key) → AreOpenAmong M area judged before
    → AreOpenAmong M area (judged ++ keys) after
