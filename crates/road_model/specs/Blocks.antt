-- What the block of a way lists.
use Rattle.std.specs.Prelude.{◌≡◌, ℕ, ◌+◌, ◌-◌, List, [], ◌∷◌, ◌++◌, length, map, Some, slice_get, IsTrue}
use Rattle.std.specs.Prelude.{Contains}
use Rattle.road_base.specs.declared.ids.WayId.{WayId}
use Rattle.road_base.specs.declared.ids.Dir.TheVariants.{Forward, Backward}
use Rattle.road_base.specs.declared.objects.Node.{Node}
use Rattle.road_base.specs.Objects.{Objects, node_of}
use Rattle.road_model.specs.declared.lists.PieceName.{PieceName}
use Rattle.road_model.specs.declared.lists.Place.{Place}
use Rattle.road_model.specs.declared.lists.TurnArc.{TurnArc}
use Rattle.road_model.specs.declared.lists.Context.{Context}
use Rattle.road_model.specs.declared.lists.Piece.{Piece}
use Rattle.road_model.specs.declared.blocks.Block.{Block}
use Rattle.road_model.specs.Rules.{Rules}
use Rattle.road_model.specs.Lines.{node_at}
use Rattle.road_model.specs.Driving.{is_marked}
use Rattle.road_model.specs.Pieces.{Span, IsPiece}
use Rattle.road_model.specs.Network.{IsContext, IsArc}
use Rattle.ordered_lists.specs.Orders.{Lists, rises}
use Rattle.road_model.specs.Orders.{name_cmp, names_cmp}

abbrev pub name_of : Span → PieceName
name_of p = record { way = p.way; index = p.index; dir = p.dir }

-- an arc as it is written: its piece's name, and how many pieces its target has
pub record IsArcEntry (M : Objects) (P : Rules) (c : List Span) (a : TurnArc) : Type 0 where
  pub piece : Span
  pub target : List Span
  pub arc : IsArc M P c piece target
  pub named : a.piece ≡ name_of piece
  pub length_is : a.length ≡ length target

-- a source of context c of piece p as it is written: the names of the pieces of a context from which an arc by the
-- piece leads to c
pub record IsSourceEntry (M : Objects) (P : Rules) (p : Span) (c : List Span) (s : List PieceName) : Type 0 where
  pub from : List Span
  pub arc : IsArc M P from p c
  pub named : s ≡ map name_of from

-- a context of the piece as it is written: the names of the pieces before it, its arcs and its sources
pub record IsContextEntry (M : Objects) (P : Rules) (p : Span) (e : Context) : Type 0 where
  pub before : List Span
  pub context : IsContext M P (before ++ p ∷ [])
  pub named : e.before ≡ map name_of before
  pub arcs : Lists (λ a. a.piece) name_cmp (IsArcEntry M P (before ++ p ∷ [])) e.arcs
  pub sources : Lists (λ s. s) names_cmp (IsSourceEntry M P p (before ++ p ∷ [])) e.sources

-- the position on the way's line at which a piece is after k steps
abbrev pub place_position : Span → ℕ → ℕ
place_position p k = elim p.dir [ Forward ↦ p.index + k | Backward ↦ p.end - k ]

-- the k-th node of a piece in order of travel, with its location
pub record IsPlaceOf (M : Objects) (p : Span) (k : ℕ) (e : Place) : Type 0 where
  pub node : node_at M p.way (place_position p k) ≡ Some e.node
  pub body : Node
  pub visible : node_of M e.node ≡ Some body
  pub location : body.location ≡ Some e.location

-- a piece of the way as it is written: its name and end, its mark, all its nodes in order of travel, and its contexts
pub record IsPieceEntry (M : Objects) (P : Rules) (w : WayId) (e : Piece) : Type 0 where
  pub piece : Span
  pub is : IsPiece M P piece
  pub of : piece.way ≡ w
  pub named : e.name ≡ name_of piece
  pub end_is : e.end ≡ piece.end
  pub marked : e.zone ≡ is_marked M P w piece.dir
  pub count : length e.places ≡ piece.end - piece.index + 1
  pub places : (k : ℕ) (x : Place) → slice_get e.places k ≡ Some x → IsPlaceOf M piece k x
  pub contexts : Lists (λ c. c.before) names_cmp (IsContextEntry M P piece) e.contexts

-- the block of a way: its pieces, each with what may follow it and what it may follow
pub record IsBlock (M : Objects) (P : Rules) (w : WayId) (b : Block) : Type 0 where
  pub way : b.way ≡ w
  pub pieces : Lists (λ p. p.name) name_cmp (IsPieceEntry M P w) b.pieces

-- the block of a way that has pieces
pub record IsRoadBlock (M : Objects) (P : Rules) (b : Block) : Type 0 where
  pub block : IsBlock M P b.way b
  pub some : b.pieces ≡ [] → ⊥

-- a piece of the way as a block lists it: its name and end, and all its nodes in order of travel
pub record IsListedPiece (M : Objects) (P : Rules) (w : WayId) (e : Piece) : Type 0 where
  pub piece : Span
  pub is : IsPiece M P piece
  pub of : piece.way ≡ w
  pub named : e.name ≡ name_of piece
  pub end_is : e.end ≡ piece.end
  pub count : length e.places ≡ piece.end - piece.index + 1
  pub nodes : (k : ℕ) (x : Place) → slice_get e.places k ≡ Some x
      → node_at M piece.way (place_position piece k) ≡ Some x.node

-- the block lists exactly the pieces of the way, whatever it says of locations and of what may follow
pub record ListsPieces (M : Objects) (P : Rules) (w : WayId) (b : Block) : Type 0 where
  pub way : b.way ≡ w
  pub ascending : IsTrue (rises name_cmp (map (λ p. p.name) b.pieces))
  pub sound : (e : Piece) → Contains b.pieces e → IsListedPiece M P w e
  pub complete : (p : Span) → IsPiece M P p → p.way ≡ w → (e : Piece) × Contains b.pieces e × (e.name ≡ name_of p)
