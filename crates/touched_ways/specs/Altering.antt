-- Which blocks a change may alter. It may alter those of the ways near what it changes, those of ways that share a node
-- with a way whose pieces it alters, those of the ways that a restriction names beside one of these, and those of ways
-- by whose pieces another arc leads than before.
use Rattle.std.specs.Prelude.{◌≡◌, ◌↔◌, ◌⊎◌, ℕ, ◌+◌, List, [], ◌∷◌, ◌++◌, Contains, map, length}
use Rattle.road_base.specs.declared.ids.NodeId.{NodeId}
use Rattle.road_base.specs.declared.ids.WayId.{WayId}
use Rattle.road_base.specs.declared.ids.RelationId.{RelationId}
use Rattle.road_base.specs.declared.ids.Key.{Key}
use Rattle.road_base.specs.declared.ids.Key.TheVariants.{Way as WayKey}
use Rattle.road_base.specs.Objects.{Objects}
use Rattle.road_model.specs.declared.lists.PieceName.{PieceName}
use Rattle.road_model.specs.declared.lists.TurnArc.{TurnArc}
use Rattle.road_model.specs.declared.lists.Context.{Context}
use Rattle.road_model.specs.declared.lists.Piece.{Piece}
use Rattle.road_model.specs.declared.blocks.Block.{Block}
use Rattle.road_model.specs.Rules.{Rules}
use Rattle.road_model.specs.Pieces.{Span, IsPiece}
use Rattle.road_model.specs.Links.{RefersTo, HasMember, IsWithin, Differs, IsTouched}
use Rattle.road_model.specs.Local.{IsSameWithin, HasSameArcs}
use Rattle.road_model.specs.Blocks.{IsBlock, IsSourceEntry, name_of}

-- a key within two links of the way differs
abbrev pub IsNearChange : Objects → Objects → WayId → Type 0
IsNearChange M N w = (k : Key) × Differs M N k × (IsWithin M 2 k (WayKey w) ⊎ IsWithin N 2 k (WayKey w))

-- a visible restriction has both ways as members
abbrev pub AreNamedTogether : Objects → WayId → WayId → Type 0
AreNamedTogether M w v = (r : RelationId) × HasMember M r (WayKey w) × HasMember M r (WayKey v)

-- the fact holds of the way, or of one that a restriction names beside it
abbrev pub HereOrBeside : Objects → (WayId → Type 0) → WayId → Type 0
HereOrBeside M Is w = Is w ⊎ ((v : WayId) × AreNamedTogether M w v × Is v)

-- the way shares a node with one of these
abbrev pub MeetsOne : Objects → List WayId → WayId → Type 0
MeetsOne M ways w = (v : WayId) × (n : NodeId) × Contains ways v × RefersTo M w n × RefersTo M v n

-- the way shares a node with one near the change
abbrev pub MeetsChange : Objects → Objects → WayId → Type 0
MeetsChange M N w = (v : WayId) × (n : NodeId) × IsNearChange M N v × RefersTo N w n × RefersTo N v n

-- the way is near the change, or meets one that is, or a restriction names it beside one of these
abbrev pub IsAround : Objects → Objects → WayId → Type 0
IsAround M N w = HereOrBeside N (λ v. IsNearChange M N v ⊎ MeetsChange M N v) w

-- the way has the same pieces in M and in N
abbrev pub HasSamePieces : Objects → Objects → Rules → WayId → Type 0
HasSamePieces M N P w = (p : Span) → p.way ≡ w → IsPiece M P p ↔ IsPiece N P p

-- the pieces that the block lists, by their names and ends
abbrev pub listed_pieces : Block → List (PieceName × ℕ)
listed_pieces b = map (λ p. (p.name, p.end)) b.pieces

-- each way that shares a node with this one has the same pieces in M and in N
abbrev pub MeetsSamePieces : Objects → Objects → Rules → WayId → Type 0
MeetsSamePieces M N P w = (v : WayId) (n : NodeId) → RefersTo N w n → RefersTo N v n → HasSamePieces M N P v

-- nothing within two links of the way differs, and the ways that share a node with it have the same pieces
abbrev pub IsStill : Objects → Objects → Rules → WayId → Type 0
IsStill M N P w = IsSameWithin 2 M N w × MeetsSamePieces M N P w

-- the change from M to N doesn't touch the way, or the way is still, and so is each that a restriction names beside it
abbrev pub IsUnaltered : Objects → Objects → Rules → WayId → Type 0
IsUnaltered M N P w =
    (IsTouched M N w → ⊥) ⊎ (IsStill M N P w × ((v : WayId) → AreNamedTogether N w v → IsStill M N P v))

-- ---- arcs that lead to a way

-- the contexts list the arc, behind these names
pub record ListsArcBehind (cs : List Context) (before : List PieceName) (a : TurnArc) : Type 0 where
  pub context : Context
  pub listed : Contains cs context
  pub behind : context.before ≡ before
  pub arc : Contains context.arcs a

-- the pieces list the arc, in the context of the piece of this name and of these names before it
pub record ListsArc (ps : List Piece) (name : PieceName) (before : List PieceName) (a : TurnArc) : Type 0 where
  pub piece : Piece
  pub listed : Contains ps piece
  pub named : piece.name ≡ name
  pub arc : ListsArcBehind piece.contexts before a

-- both list the same arcs by pieces of the way
abbrev pub ListSameArcs : WayId → List Piece → List Piece → Type 0
ListSameArcs w ps qs = (name : PieceName) (before : List PieceName) (a : TurnArc) → a.piece.way ≡ w
    → ListsArc ps name before a ↔ ListsArc qs name before a

-- the blocks of way v in M and in N list the same arcs by pieces of way w
pub record HasSameArcsTo (M N : Objects) (P : Rules) (w v : WayId) : Type 0 where
  pub was : Block
  pub is : Block
  pub before : IsBlock M P v was
  pub after : IsBlock N P v is
  pub same : ListSameArcs w was.pieces is.pieces

-- way v has the same arcs in M and in N, or its blocks list the same by pieces of way w
abbrev pub IsLedAlike : Objects → Objects → Rules → WayId → WayId → Type 0
IsLedAlike M N P w v = HasSameArcs M N P v ⊎ HasSameArcsTo M N P w v

-- these are the names of a context from which an arc leads to the context of the piece of that name behind those before
pub record IsNamedSource (M : Objects) (P : Rules) (name : PieceName) (before s : List PieceName) : Type 0 where
  pub front : List Span
  pub piece : Span
  pub source : IsSourceEntry M P piece (front ++ piece ∷ []) s
  pub behind : before ≡ map name_of front
  pub named : name ≡ name_of piece

-- the pieces list an arc by the piece of that name from the context of the names s, to its context behind those before:
-- these are the last ones of s, one less than the arc's target has
pub record ListsArcFrom (ps : List Piece) (name : PieceName) (before s : List PieceName) : Type 0 where
  pub front : List PieceName
  pub last : PieceName
  pub from : s ≡ front ++ last ∷ []
  pub arc : TurnArc
  pub listed : ListsArc ps last front arc
  pub by : arc.piece ≡ name
  pub others : List PieceName
  pub target : s ≡ others ++ before
  pub length_is : arc.length ≡ length before + 1
