-- That names and object maps leave no choice, and that every way has a block and every object map a graph.
use Rattle.std.specs.Prelude.{◌≡◌, ℕ, List}
use Rattle.road_base.specs.declared.ids.WayId.{WayId}
use Rattle.road_base.specs.Objects.{Objects}
use Rattle.road_model.specs.declared.lists.Piece.{Piece}
use Rattle.road_model.specs.declared.blocks.Block.{Block}
use Rattle.road_model.specs.Rules.{Rules}
use Rattle.road_model.specs.Pieces.{Span, IsPiece}
use Rattle.road_model.specs.Blocks.{IsPieceEntry, IsBlock, name_of}
use Rattle.road_model.specs.Format.{IsGraph}

-- pieces are told apart by their names
abbrev pub OnePiece : Objects → Rules → Type 0
OnePiece M P = (p q : Span) → IsPiece M P p → IsPiece M P q → name_of p ≡ name_of q → p ≡ q

-- a piece is written in one way
abbrev pub OneEntry : Objects → Rules → Type 0
OneEntry M P = (w : WayId) (e f : Piece) → IsPieceEntry M P w e → IsPieceEntry M P w f → e.name ≡ f.name → e ≡ f

-- a way has one block
abbrev pub OneBlock : Objects → Rules → Type 0
OneBlock M P = (w : WayId) (a b : Block) → IsBlock M P w a → IsBlock M P w b → a ≡ b

-- an object map has one graph, byte for byte
abbrev pub OneGraph : Objects → Rules → Type 0
OneGraph M P = (a b : List ℕ) → IsGraph M P a → IsGraph M P b → a ≡ b

-- every way has a block
abbrev pub HasBlock : Objects → Rules → Type 0
HasBlock M P = (w : WayId) → (b : Block) × IsBlock M P w b

-- the object map has a graph
abbrev pub HasGraph : Objects → Rules → Type 0
HasGraph M P = (bytes : List ℕ) × IsGraph M P bytes
