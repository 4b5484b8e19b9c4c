-- Contexts by their last pieces.
use Rattle.std.specs.Prelude.{◌≡◌, ℕ, List, [], length, map, Some, Bool, slice_get}
use Rattle.std.specs.List.{list_any}
use Rattle.road_base.specs.declared.ids.NodeId.{NodeId}
use Rattle.road_model.specs.declared.lists.Place.{Place}
use Rattle.road_model.specs.declared.lists.PieceName.{PieceName}
use Rattle.road_model.specs.Lines.{same_node}
use Rattle.context_search.specs.Marks.{At}
use Rattle.least_cost.specs.declared.context_finder.LastPiece.{LastPiece}

-- the name of the context's last piece, and how many pieces stand before it
abbrev pub last_piece : At → LastPiece
last_piece x = record { name = x.piece.name; before = length x.context.before }

-- the piece, with none before it
abbrev pub alone : PieceName → LastPiece
alone piece = record { name = piece; before = 0 }

-- no pieces are before it, and the piece stands alone at the place
pub record IsAlone (list : List LastPiece) (piece : PieceName) (before : List PieceName) (place : ℕ) : Type 0 where
  pub none : before ≡ []
  pub at : slice_get list place ≡ Some (alone piece)

-- whether a piece with these places passes the node
abbrev pub passes : NodeId → List Place → Bool
passes b places = list_any (λ place. same_node place.node b) places

-- the same of the context's last piece
abbrev pub is_passed : NodeId → At → Bool
is_passed b x = passes b x.piece.places

-- the lists that stand beside all contexts: of their last pieces, and of whether these pass the node
pub record StandBeside (L : List At) (b : NodeId) (last : List LastPiece) (passed : List Bool) : Type 0 where
  pub pieces : last ≡ map last_piece L
  pub marks : passed ≡ map (is_passed b) L
