-- What a search over the contexts of a graph has marked.
use Rattle.std.specs.Prelude.{ℕ, ◌+◌, ◌-◌, List, [], ◌∷◌, ◌++◌, length, map, drop}
use Rattle.std.specs.Ordering.{ordering_then}
use Rattle.std.specs.List.{flat_map}
use Rattle.std.specs.declared.cmp.Ordering.{Ordering}
use Rattle.road_model.specs.declared.lists.PieceName.{PieceName}
use Rattle.road_model.specs.declared.lists.Context.{Context}
use Rattle.road_model.specs.declared.lists.Piece.{Piece}
use Rattle.road_model.specs.declared.blocks.Block.{Block}
use Rattle.road_model.specs.Orders.{name_cmp, names_cmp}
use Rattle.context_search.specs.declared.spots.Spot.{Spot}

-- a context as it is written, and the piece that it ends with
pub record At : Type 0 where
  pub piece : Piece
  pub context : Context

abbrev pub at_of : Spot → At
at_of s = record { piece = s.piece.now; context = s.context.now }

-- the name of the piece, and the names of those before it
abbrev pub key_of : At → PieceName × List PieceName
key_of x = (x.piece.name, x.context.before)

-- by the piece, then by those before it
abbrev pub key_cmp : PieceName × List PieceName → PieceName × List PieceName → Ordering
key_cmp a b = ordering_then (name_cmp a.0 b.0) (names_cmp a.1 b.1)

abbrev pub at_by : Piece → Context → At
at_by p c = record { piece = p; context = c }

abbrev pub contexts_at : Piece → List At
contexts_at p = map (at_by p) p.contexts

abbrev pub contexts_over : List Piece → List At
contexts_over = flat_map contexts_at

-- all contexts of the blocks, in their order
abbrev pub all_contexts : List Block → List At
all_contexts = flat_map (λ b. contexts_over b.pieces)

-- the last names of the context's, as many as that
abbrev pub names_behind : At → ℕ → List PieceName
names_behind x n = drop (length x.context.before + 1 - n) (x.context.before ++ x.piece.name ∷ [])
