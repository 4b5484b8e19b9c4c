-- Names of pieces, what one of them spells, and pieces with what their callers need of them.
use Rattle.std.specs.Prelude.{◌≡◌, List, [], ◌∷◌, ◌++◌, Some, slice_get}
use Rattle.road_base.specs.declared.ids.NodeId.{NodeId}
use Rattle.road_base.specs.declared.ids.WayId.{WayId}
use Rattle.road_base.specs.declared.ids.Step.{Step}
use Rattle.road_base.specs.Objects.{Objects}
use Rattle.road_model.specs.declared.lists.PieceName.{PieceName}
use Rattle.road_model.specs.Rules.{Rules}
use Rattle.road_model.specs.Lines.{tail_of, head_of}
use Rattle.road_model.specs.Pieces.{Span, IsPiece, spell}
use Rattle.road_model.specs.Blocks.{name_of}
use Rattle.way_pieces.specs.declared.spans.PieceSpan.{PieceSpan}
use Rattle.way_pieces.specs.declared.arrivals.Arrival.{Arrival}
use Rattle.way_pieces.specs.declared.departures.Departure.{Departure}

-- the name is that of a piece of the way
pub record IsNameOn (M : Objects) (P : Rules) (w : WayId) (n : PieceName) : Type 0 where
  pub piece : Span
  pub is : IsPiece M P piece
  pub named : n ≡ name_of piece
  pub of : piece.way ≡ w

-- the name is that of a piece whose first step leaves the node
pub record IsNameFrom (M : Objects) (P : Rules) (v : NodeId) (n : PieceName) : Type 0 where
  pub piece : Span
  pub is : IsPiece M P piece
  pub named : n ≡ name_of piece
  pub first : Step
  pub begins : slice_get (spell piece) 0 ≡ Some first
  pub leaves : tail_of M first ≡ Some v

-- the steps are those of the piece of that name, in order of travel
pub record IsSpelling (M : Objects) (P : Rules) (n : PieceName) (steps : List Step) : Type 0 where
  pub piece : Span
  pub is : IsPiece M P piece
  pub named : n ≡ name_of piece
  pub spelled : steps ≡ spell piece

-- no piece has the name
abbrev pub NamesNone : Objects → Rules → PieceName → Type 0
NamesNone M P n = (p : Span) → IsPiece M P p → n ≡ name_of p → ⊥

-- what would be the piece of that name with that upper position
abbrev pub piece_of : PieceSpan → Span
piece_of s = record { way = s.name.way; index = s.name.index; end = s.end; dir = s.name.dir }

-- a piece of the way, with both its positions
pub record IsSpanOn (M : Objects) (P : Rules) (w : WayId) (s : PieceSpan) : Type 0 where
  pub of : s.name.way ≡ w
  pub is : IsPiece M P (piece_of s)

-- a piece whose first step leaves the node, with that step and the node where it ends
pub record IsDeparture (M : Objects) (P : Rules) (v : NodeId) (d : Departure) : Type 0 where
  pub piece : Span
  pub is : IsPiece M P piece
  pub named : d.piece ≡ name_of piece
  pub more : List Step
  pub begins : spell piece ≡ d.first ∷ more
  pub leaves : tail_of M d.first ≡ Some v
  pub toward : head_of M d.first ≡ Some d.toward

-- the piece's last step leads from node u to node v
pub record Arrives (M : Objects) (p : Span) (u v : NodeId) : Type 0 where
  pub front : List Step
  pub last : Step
  pub ends : spell p ≡ front ++ last ∷ []
  pub tail : tail_of M last ≡ Some u
  pub head : head_of M last ≡ Some v

-- a piece that comes to the node, with the node before its end
pub record IsArrival (M : Objects) (P : Rules) (v : NodeId) (a : Arrival) : Type 0 where
  pub is : IsPiece M P (piece_of a.span)
  pub arrives : Arrives M (piece_of a.span) a.from v
