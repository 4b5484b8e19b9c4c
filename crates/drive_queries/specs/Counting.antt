-- How many blocks, pieces, contexts and arcs a graph has.
use Rattle.std.specs.Prelude.{ℕ, List, length, map, min, sum_by}
use Rattle.std.specs.FinMap.{FinMap, entries}
use Rattle.road_model.specs.declared.lists.Piece.{Piece}
use Rattle.road_model.specs.declared.blocks.Block.{Block}
use Rattle.road_model.specs.Orders.{way_cmp}
use Rattle.drive_queries.specs.declared.totals.Totals.{Totals}

abbrev pub blocks_in : FinMap way_cmp Block → List Block
blocks_in m = map (λ e. e.1) (entries m)

abbrev pub pieces_in : List Block → ℕ
pieces_in blocks = sum_by (λ b. length b.pieces) blocks

abbrev pub contexts_on : List Piece → ℕ
contexts_on pieces = sum_by (λ p. length p.contexts) pieces

abbrev pub contexts_in : List Block → ℕ
contexts_in blocks = sum_by (λ b. contexts_on b.pieces) blocks

abbrev pub arcs_on : List Piece → ℕ
arcs_on pieces = sum_by (λ p. sum_by (λ c. length c.arcs) p.contexts) pieces

abbrev pub arcs_in : List Block → ℕ
arcs_in blocks = sum_by (λ b. arcs_on b.pieces) blocks

-- the number, or the last one of 64 bits where it is more
abbrev pub counted : ℕ → ℕ
counted n = min n 18446744073709551615

-- how many blocks there are, and pieces, contexts and arcs in them
abbrev pub totals_of : List Block → Totals
totals_of blocks = record {
  ways = counted (length blocks);
  pieces = counted (pieces_in blocks);
  contexts = counted (contexts_in blocks);
  arcs = counted (arcs_in blocks);
}
