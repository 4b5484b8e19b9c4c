-- Places in areas of the world.
use Rattle.std.specs.Prelude.{◌≡◌, ℕ, ◌<◌, List, Bool, ◌&&◌, IsTrue, Some, Contains, slice_get}
use Rattle.road_base.specs.declared.ids.NodeId.{NodeId}
use Rattle.road_base.specs.declared.location.Location.{Location}
use Rattle.road_base.specs.declared.objects.Node.{Node}
use Rattle.road_base.specs.Objects.{Objects, node_of}
use Rattle.road_base.specs.Ranges.{is_within}
use Rattle.map_cells.specs.declared.area.Area.{Area}

-- the place is between the area's edges, or on one
abbrev pub is_in : Area → Location → Bool
is_in a p = is_within a.west a.east p.lon && is_within a.south a.north p.lat

-- each place of the first area is in the second
abbrev pub IsInside : Area → Area → Type 0
IsInside a b = (p : Location) → IsTrue (is_in a p) → IsTrue (is_in b p)

-- no place is in both
abbrev pub AreApart : Area → Area → Type 0
AreApart a b = (p : Location) → IsTrue (is_in a p) → IsTrue (is_in b p) → ⊥

-- each place of the world is in one of the areas, and two of them, which stand at different positions, share none
pub record CoverWorld (areas : List Area) : Type 0 where
  pub all : (p : Location) → (a : Area) × Contains areas a × IsTrue (is_in a p)
  pub apart : (i j : ℕ) (a b : Area) → i < j → slice_get areas i ≡ Some a → slice_get areas j ≡ Some b → AreApart a b

-- each visible node of M that is located lies in one of the areas, and two of them, which stand at different positions,
-- share no place
pub record CoverNodes (M : Objects) (areas : List Area) : Type 0 where
  pub all : (n : NodeId) (body : Node) (p : Location) → node_of M n ≡ Some body → body.location ≡ Some p
      → (a : Area) × Contains areas a × IsTrue (is_in a p)
  pub apart : (i j : ℕ) (a b : Area) → i < j → slice_get areas i ≡ Some a → slice_get areas j ≡ Some b → AreApart a b
