-- What is found in a graph by the name of a piece.
use Rattle.std.specs.Prelude.{◌≡◌, ℕ, List, map, Some, IsTrue, slice_get, Contains}
use Rattle.road_model.specs.declared.lists.PieceName.{PieceName}
use Rattle.road_model.specs.declared.lists.TurnArc.{TurnArc}
use Rattle.road_model.specs.declared.lists.Context.{Context}
use Rattle.road_model.specs.declared.lists.Piece.{Piece}
use Rattle.road_model.specs.declared.blocks.Block.{Block}
use Rattle.ordered_lists.specs.Orders.{rises}
use Rattle.road_model.specs.Orders.{name_cmp}
use Rattle.road_model.specs.FileWalks.{HasPiece}

-- the pieces of each block are named by its way, and ascend by name
pub record AreOrdered (blocks : List Block) : Type 0 where
  pub ascend : (b : Block) → Contains blocks b → IsTrue (rises name_cmp (map (λ p. p.name) b.pieces))
  pub ways : (b : Block) (p : Piece) → Contains blocks b → Contains b.pieces p → p.name.way ≡ b.way

-- the blocks have a piece of this name
pub record HasNamed (blocks : List Block) (name : PieceName) (piece : Piece) : Type 0 where
  pub stands : HasPiece blocks piece
  pub named : piece.name ≡ name

-- the blocks have a piece of this name, with these contexts
pub record HasContextsOf (blocks : List Block) (name : PieceName) (contexts : List Context) : Type 0 where
  pub piece : Piece
  pub has : HasNamed blocks name piece
  pub contexts_are : piece.contexts ≡ contexts

-- there is a context at the place, from which these arcs lead
pub record HasContextAt (contexts : List Context) (place : ℕ) (arcs : List TurnArc) : Type 0 where
  pub context : Context
  pub at : slice_get contexts place ≡ Some context
  pub arcs_are : context.arcs ≡ arcs

-- the blocks have a piece of this name with a context at the place, from which these arcs lead
pub record HasArcsOf (blocks : List Block) (name : PieceName) (place : ℕ) (arcs : List TurnArc) : Type 0 where
  pub contexts : List Context
  pub has : HasContextsOf blocks name contexts
  pub at : HasContextAt contexts place arcs

-- there is a context at the place, which has these sources
pub record HasSourcesAt (contexts : List Context) (place : ℕ) (sources : List (List PieceName)) : Type 0 where
  pub context : Context
  pub at : slice_get contexts place ≡ Some context
  pub sources_are : context.sources ≡ sources

-- the blocks have a piece of this name with a context at the place, which has these sources
pub record HasSourcesOf (blocks : List Block) (name : PieceName) (place : ℕ) (sources : List (List PieceName)) : Type 0
  where
    pub contexts : List Context
    pub has : HasContextsOf blocks name contexts
    pub at : HasSourcesAt contexts place sources
