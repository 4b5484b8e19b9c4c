-- Walks over the blocks that a graph file spells, made as a reader of the file makes them: by the names alone that
-- stand there.
use Rattle.std.specs.Prelude.{◌≡◌, ℕ, ◌+◌, ◌-◌, ◌↔◌, List, [], ◌∷◌, ◌++◌, length, map, drop, Option, Some, slice_get}
use Rattle.std.specs.Prelude.{IsTrue, Contains}
use Rattle.ordered_lists.specs.Orders.{rises}
use Rattle.road_model.specs.Orders.{names_cmp}
use Rattle.road_base.specs.declared.ids.NodeId.{NodeId}
use Rattle.road_base.specs.declared.ids.Step.{Step}
use Rattle.road_base.specs.declared.objects.Node.{Node}
use Rattle.road_base.specs.Objects.{Objects, node_of}
use Rattle.road_model.specs.declared.lists.PieceName.{PieceName}
use Rattle.road_model.specs.declared.lists.Place.{Place}
use Rattle.road_model.specs.declared.lists.TurnArc.{TurnArc}
use Rattle.road_model.specs.declared.lists.Context.{Context}
use Rattle.road_model.specs.declared.lists.Piece.{Piece}
use Rattle.road_model.specs.declared.blocks.Block.{Block}
use Rattle.road_model.specs.Rules.{Rules}
use Rattle.road_model.specs.Lines.{steps_from, tail_of, head_of}
use Rattle.road_model.specs.Pieces.{Span}
use Rattle.road_model.specs.Contexts.{Every, spell_all}
use Rattle.road_model.specs.Blocks.{name_of}
use Rattle.road_model.specs.Network.{spell_pieces}
use Rattle.road_model.specs.Walks.{WalksTo, IsWalk, IsJunctionDrive}

-- ---- what stands in the blocks

-- the piece is one of a block
pub record HasPiece (blocks : List Block) (piece : Piece) : Type 0 where
  pub block : Block
  pub in_file : Contains blocks block
  pub in_block : Contains block.pieces piece

-- the context of these names stands in the blocks: the last one names its piece, and the others stand before it
pub record HasContext (blocks : List Block) (names : List PieceName) : Type 0 where
  pub piece : Piece
  pub stands : HasPiece blocks piece
  pub context : Context
  pub in_piece : Contains piece.contexts context
  pub named : names ≡ context.before ++ piece.name ∷ []

abbrev pub last_names : ℕ → List PieceName → List PieceName
last_names n names = drop (length names - n) names

-- From the context of these names an arc leads by the piece to the target: the names and the piece's, of which as many
-- of the last are left as the arc says.
pub record HasArc (blocks : List Block) (names : List PieceName) (piece : PieceName) (target : List PieceName) : Type 0
  where
    pub from : HasContext blocks names
    pub arc : TurnArc
    pub in_context : Contains from.context.arcs arc
    pub by : arc.piece ≡ piece
    pub leads : target ≡ last_names arc.length (names ++ piece ∷ [])

-- the context of these names lists the source
pub record HasSource (blocks : List Block) (names source : List PieceName) : Type 0 where
  pub to : HasContext blocks names
  pub listed : Contains to.context.sources source

-- an arc leads from the context of these names, by its last piece, to the context of the names `target`
pub record LeadsTo (blocks : List Block) (names target : List PieceName) : Type 0 where
  pub before : List PieceName
  pub piece : PieceName
  pub ends : target ≡ before ++ piece ∷ []
  pub arc : HasArc blocks names piece target

-- ---- walks

-- the names are those of a walk that has come to the context: it starts at a context of one piece and follows arcs
pub data FileWalksTo (blocks : List Block) : List PieceName → List PieceName → Type 0 where
  Begin : {walk context : List PieceName} (piece : PieceName) → HasContext blocks (piece ∷ []) → walk ≡ piece ∷ []
      → context ≡ piece ∷ [] → FileWalksTo blocks walk context
  Follow : {walk context : List PieceName} (front names : List PieceName) (piece : PieceName)
      → FileWalksTo blocks front names → HasArc blocks names piece context → walk ≡ front ++ piece ∷ []
      → FileWalksTo blocks walk context

-- the pieces stand in the blocks under these names
pub record AreNamed (blocks : List Block) (names : List PieceName) (pieces : List Piece) : Type 0 where
  pub stand : Every (HasPiece blocks) pieces
  pub named : map (λ p. p.name) pieces ≡ names

-- the steps from where a piece begins to where it ends
abbrev pub piece_steps : Piece → List Step
piece_steps p = steps_from p.name.way p.name.index (p.end - p.name.index) p.name.dir

-- the drive is what the pieces of the walk spell, as they stand in the blocks
pub record IsReadFrom (blocks : List Block) (walk : List PieceName) (drive : List Step) : Type 0 where
  pub context : List PieceName
  pub walks : FileWalksTo blocks walk context
  pub pieces : List Piece
  pub are : AreNamed blocks walk pieces
  pub spelled : spell_all piece_steps pieces ≡ drive

-- ---- places

-- the place is the node, with its location
pub record IsPlaceAt (M : Objects) (node : Option NodeId) (place : Place) : Type 0 where
  pub node_is : node ≡ Some place.node
  pub body : Node
  pub visible : node_of M place.node ≡ Some body
  pub location : body.location ≡ Some place.location

-- the places are the nodes that the steps pass, one more than the steps: each step begins at one and ends at the next
pub record ArePassed (M : Objects) (steps : List Step) (places : List Place) : Type 0 where
  pub count : length places ≡ length steps + 1
  pub tails : (k : ℕ) (s : Step) (x : Place) → slice_get steps k ≡ Some s → slice_get places k ≡ Some x
      → IsPlaceAt M (tail_of M s) x
  pub heads : (k : ℕ) (s : Step) (x : Place) → slice_get steps k ≡ Some s → slice_get places (k + 1) ≡ Some x
      → IsPlaceAt M (head_of M s) x

-- ---- what they are to the object map

-- the names are those of a walk of the object map, and of the context to which it has come
pub record IsNamedWalk (M : Objects) (P : Rules) (walk context : List PieceName) : Type 0 where
  pub pieces : List Span
  pub longest : List Span
  pub walks : WalksTo M P pieces longest
  pub walk_is : walk ≡ map name_of pieces
  pub context_is : context ≡ map name_of longest

-- Whoever walks over the blocks, walks over the object map: by the same pieces to the same contexts, and an arc that
-- stands there leads to a context that stands there. A walk spells the same drive here and there, and no other; what
-- the walks spell are exactly the legal drives from junction to junction, each spelled by one walk; and the places of
-- each piece are the nodes that its steps pass. The sources of a context are the contexts from which an arc leads
-- there, each once, so that whoever goes from a context to its sources goes along the arcs backwards.
pub record AreFileWalks (M : Objects) (P : Rules) (blocks : List Block) : Type 0 where
  pub walks : (walk context : List PieceName) → FileWalksTo blocks walk context ↔ IsNamedWalk M P walk context
  pub targets : (names : List PieceName) (piece : PieceName) (target : List PieceName)
      → HasArc blocks names piece target → HasContext blocks target
  pub spelled : (d : List Span) → IsWalk M P d → IsReadFrom blocks (map name_of d) (spell_pieces d)
  pub one_drive : (walk : List PieceName) (s t : List Step) → IsReadFrom blocks walk s → IsReadFrom blocks walk t
      → s ≡ t
  pub drives : (s : List Step) → ((walk : List PieceName) × IsReadFrom blocks walk s) ↔ IsJunctionDrive M P s
  pub one_walk : (v w : List PieceName) (s : List Step) → IsReadFrom blocks v s → IsReadFrom blocks w s → v ≡ w
  pub places : (p : Piece) → HasPiece blocks p → ArePassed M (piece_steps p) p.places
  pub sources : (target names : List PieceName) → HasSource blocks target names ↔ LeadsTo blocks names target
  pub once : (names : List PieceName) (h : HasContext blocks names) → IsTrue (rises names_cmp h.context.sources)
