-- Blocks as they are before the sources of their contexts are written.
use Rattle.std.specs.Prelude.{◌≡◌, ℕ, ◌+◌, ◌-◌, length, map, Some, slice_get, IsTrue, Contains}
use Rattle.road_base.specs.declared.ids.WayId.{WayId}
use Rattle.road_base.specs.Objects.{Objects}
use Rattle.road_model.specs.declared.lists.Piece.{Piece}
use Rattle.road_model.specs.declared.lists.Place.{Place}
use Rattle.road_model.specs.declared.blocks.Block.{Block}
use Rattle.road_model.specs.Rules.{Rules}
use Rattle.road_model.specs.Driving.{is_marked}
use Rattle.road_model.specs.Pieces.{Span, IsPiece}
use Rattle.ordered_lists.specs.Orders.{Lists, rises}
use Rattle.road_model.specs.Orders.{name_cmp, names_cmp}
use Rattle.road_model.specs.Blocks.{IsPlaceOf, name_of}
use Rattle.expanded_graph.specs.Contexts.{IsBareContext}

-- a piece of the way as it is written before the sources of its contexts are
pub record IsBarePiece (M : Objects) (P : Rules) (w : WayId) (e : Piece) : Type 0 where
  pub piece : Span
  pub is : IsPiece M P piece
  pub of : piece.way ≡ w
  pub named : e.name ≡ name_of piece
  pub end_is : e.end ≡ piece.end
  pub marked : e.zone ≡ is_marked M P w piece.dir
  pub count : length e.places ≡ piece.end - piece.index + 1
  pub places : (k : ℕ) (x : Place) → slice_get e.places k ≡ Some x → IsPlaceOf M piece k x
  pub contexts : Lists (λ c. c.before) names_cmp (IsBareContext M P piece) e.contexts

-- the block of the way before the sources of its contexts are written: exactly the pieces of the way, by their names
pub record IsBareBlock (M : Objects) (P : Rules) (w : WayId) (b : Block) : Type 0 where
  pub way : b.way ≡ w
  pub ascending : IsTrue (rises name_cmp (map (λ p. p.name) b.pieces))
  pub sound : (e : Piece) → Contains b.pieces e → IsBarePiece M P w e
  pub complete : (p : Span) → IsPiece M P p → p.way ≡ w → (e : Piece) × Contains b.pieces e × (e.name ≡ name_of p)
