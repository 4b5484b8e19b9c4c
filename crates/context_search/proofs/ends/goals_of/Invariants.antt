use Rattle.std.proofs.Common.{◌≡◌, ◌≤◌, ℕ, Some, Contains, take}
use Rattle.std.specs.FinMap.{get}
use Rattle.road_base.specs.declared.ids.WayId.{WayId}
use Rattle.road_model.specs.declared.lists.Piece.{Piece}
use Rattle.road_model.specs.declared.lists.PieceName.{PieceName}
use Rattle.context_search.specs.declared.ends.Goal.{Goal}
use Rattle.context_search.specs.Ends.{Arrives, pieces_in}
use Rattle.context_search.specs.Visits.{goal_in}
use Rattle.graph_blocks.specs.Lent.{map_of}
use Rattle.context_search.proofs.ends.goals_of.Given as goal

-- the goals so far are those on the ways so far
abbrev pub invariant-loop-way : goal.invariant-loop-way
invariant-loop-way g l = record {
  sound : (n : PieceName) (g : Goal) → goal_in l.goals n ≡ Some g
      → (w : WayId) × Contains (pieces_in (get (map_of l.blocks) w)) g.piece.now × (g.piece.now.name ≡ n)
      × Arrives g.piece.now g.last l.node;
  complete : (w : WayId) (e : Piece) (j : ℕ) → Contains (take l.way-index l.way-items) w
      → Contains (pieces_in (get (map_of l.blocks) w)) e → Arrives e j l.node
      → (g : Goal) × (goal_in l.goals e.name ≡ Some g) × (j ≤ g.last);
}
