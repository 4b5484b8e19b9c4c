use Rattle.std.proofs.Common.{◌≡◌, ◌≤◌, ◌⊎◌, ℕ, Some, Contains, take}
use Rattle.road_model.specs.declared.lists.Piece.{Piece}
use Rattle.road_model.specs.declared.lists.PieceName.{PieceName}
use Rattle.context_search.specs.declared.ends.Goal.{Goal}
use Rattle.context_search.specs.Ends.{Arrives}
use Rattle.context_search.specs.Visits.{goal_in}
use Rattle.context_search.proofs.ends.add_goals.Given as goal

-- those of the pieces so far are put
abbrev pub invariant-loop-piece : goal.invariant-loop-piece
invariant-loop-piece l = record {
  others : (n : PieceName) → ((e : Piece) → Contains (take l.piece-index l.pieces) e → e.name ≡ n → ⊥)
      → goal_in l.goals n ≡ goal_in l.fn.goals n;
  new : (e : Piece) (g : Goal) → Contains (take l.piece-index l.pieces) e → goal_in l.goals e.name ≡ Some g
      → (goal_in l.fn.goals e.name ≡ Some g) ⊎ ((g.piece.now ≡ e) × Arrives e g.last l.node);
  all : (e : Piece) (j : ℕ) → Contains (take l.piece-index l.pieces) e → Arrives e j l.node
      → (g : Goal) × (goal_in l.goals e.name ≡ Some g) × (j ≤ g.last);
}
