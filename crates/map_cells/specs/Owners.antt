-- Who owns a way: the cell in which its first located node lies.
use Rattle.std.specs.Prelude.{◌≡◌, List, [], ◌∷◌, Option, Some, None, IsTrue}
use Rattle.std.specs.Option.{option_or}
use Rattle.road_base.specs.declared.ids.NodeId.{NodeId}
use Rattle.road_base.specs.declared.ids.WayId.{WayId}
use Rattle.road_base.specs.declared.location.Location.{Location}
use Rattle.road_base.specs.declared.objects.Node.{Node}
use Rattle.road_base.specs.declared.objects.Way.{Way}
use Rattle.road_base.specs.Objects.{Objects, node_of, way_of}
use Rattle.road_model.specs.Highways.{IsHighway}
use Rattle.map_cells.specs.declared.area.Area.{Area}
use Rattle.map_cells.specs.Areas.{is_in}

-- where the node is, if it is visible and located
abbrev pub place_in : Option Node → Option Location
place_in None = None
place_in (Some n) = n.location

-- where the first located one of these nodes is
unfoldable pub first_place : Objects → List NodeId → Option Location
first_place M [] = None
first_place M (n ∷ ns) = option_or (place_in (node_of M n)) (first_place M ns)

-- the way is visible and has the key `highway`, and its first located node lies in the cell
pub record IsOwn (M : Objects) (cell : Area) (w : WayId) : Type 0 where
  pub highway : IsHighway M w
  pub body : Way
  pub is : way_of M w ≡ Some body
  pub place : Location
  pub first : first_place M body.refs ≡ Some place
  pub inside : IsTrue (is_in cell place)
