-- Which steps of a piece begin or end at a node, by its places.
use Rattle.std.specs.Prelude.{◌≡◌, ℕ, ◌+◌, ◌<◌, List, [], length, Option, Some, None, slice_get}
use Rattle.road_base.specs.declared.ids.NodeId.{NodeId}
use Rattle.road_model.specs.declared.lists.Place.{Place}
use Rattle.road_model.specs.declared.lists.Piece.{Piece}
use Rattle.road_model.specs.declared.blocks.Block.{Block}

abbrev pub pieces_in : Option Block → List Piece
pieces_in None = []
pieces_in (Some b) = b.pieces

-- step k begins at the node: it isn't the last place
pub record BeginsBy (places : List Place) (k : ℕ) (v : NodeId) : Type 0 where
  pub place : Place
  pub at : slice_get places k ≡ Some place
  pub is : place.node ≡ v
  pub within : k + 1 < length places

-- step k ends at the node
pub record StopsBy (places : List Place) (k : ℕ) (v : NodeId) : Type 0 where
  pub place : Place
  pub at : slice_get places (k + 1) ≡ Some place
  pub is : place.node ≡ v

abbrev pub Leaves : Piece → ℕ → NodeId → Type 0
Leaves e k v = BeginsBy e.places k v

abbrev pub Arrives : Piece → ℕ → NodeId → Type 0
Arrives e k v = StopsBy e.places k v
