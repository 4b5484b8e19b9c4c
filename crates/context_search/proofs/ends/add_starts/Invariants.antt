use Rattle.std.proofs.Common.{◌≡◌, ◌≤◌, ◌⊎◌, ℕ, Contains, take}
use Rattle.road_model.specs.declared.lists.Piece.{Piece}
use Rattle.context_search.specs.declared.ends.Begin.{Begin}
use Rattle.context_search.specs.Ends.{Leaves}
use Rattle.context_search.proofs.ends.add_starts.Given as goal

-- those of the pieces so far are added
abbrev pub invariant-loop-piece : goal.invariant-loop-piece
invariant-loop-piece l = record {
  stays : (s : Begin) → Contains l.fn.starts.items s → Contains l.starts.items s;
  new : (s : Begin) → Contains l.starts.items s
      → Contains l.fn.starts.items s ⊎ (Contains l.pieces s.piece.now × Leaves s.piece.now s.first l.node);
  all : (e : Piece) (i : ℕ) → Contains (take l.piece-index l.pieces) e → Leaves e i l.node
      → (s : Begin) × Contains l.starts.items s × (s.piece.now ≡ e) × (s.first ≤ i);
}
