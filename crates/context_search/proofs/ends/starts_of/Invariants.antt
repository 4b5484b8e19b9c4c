use Rattle.std.proofs.Common.{◌≡◌, ◌≤◌, ℕ, Contains, take}
use Rattle.std.specs.FinMap.{get}
use Rattle.road_base.specs.declared.ids.WayId.{WayId}
use Rattle.road_model.specs.declared.lists.Piece.{Piece}
use Rattle.context_search.specs.declared.ends.Begin.{Begin}
use Rattle.context_search.specs.Ends.{Leaves, pieces_in}
use Rattle.graph_blocks.specs.Lent.{map_of}
use Rattle.context_search.proofs.ends.starts_of.Given as goal

-- the starts so far are those on the ways so far
abbrev pub invariant-loop-way : goal.invariant-loop-way
invariant-loop-way g l = record {
  sound : (s : Begin) → Contains l.starts.items s
      → (w : WayId) × Contains (pieces_in (get (map_of l.blocks) w)) s.piece.now × Leaves s.piece.now s.first l.node;
  complete : (w : WayId) (e : Piece) (i : ℕ) → Contains (take l.way-index l.way-items) w
      → Contains (pieces_in (get (map_of l.blocks) w)) e → Leaves e i l.node
      → (s : Begin) × Contains l.starts.items s × (s.piece.now ≡ e) × (s.first ≤ i);
}
