-- Which contexts blocks list, and the order in which they stand.
use Rattle.std.specs.Prelude.{◌≡◌, List, map, Some, IsTrue, Contains}
use Rattle.std.specs.FinMap.{FinMap, get, values}
use Rattle.road_base.specs.declared.ids.WayId.{WayId}
use Rattle.ordered_lists.specs.Orders.{rises}
use Rattle.road_model.specs.declared.lists.Piece.{Piece}
use Rattle.road_model.specs.declared.blocks.Block.{Block}
use Rattle.road_model.specs.Orders.{way_cmp, name_cmp, names_cmp}
use Rattle.graph_blocks.specs.Lent.{AreAtTheirWays}
use Rattle.context_search.specs.Marks.{At, all_contexts}

-- all contexts of the blocks
abbrev pub contexts_in : FinMap way_cmp Block → List At
contexts_in m = all_contexts (values m)

-- each block stands at its way, its pieces ascend by name and are named by its way, and the contexts of each piece
-- ascend by the names before it
pub record AreInOrder (m : FinMap way_cmp Block) : Type 0 where
  pub ways : AreAtTheirWays m
  pub pieces : (w : WayId) (b : Block) → get m w ≡ Some b → IsTrue (rises name_cmp (map (λ p. p.name) b.pieces))
  pub named : (w : WayId) (b : Block) → get m w ≡ Some b → (p : Piece) → Contains b.pieces p → p.name.way ≡ w
  pub contexts : (w : WayId) (b : Block) → get m w ≡ Some b → (p : Piece) → Contains b.pieces p
      → IsTrue (rises names_cmp (map (λ c. c.before) p.contexts))
