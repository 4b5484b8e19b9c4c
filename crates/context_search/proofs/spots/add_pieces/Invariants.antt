use Rattle.std.proofs.Common.{◌≡◌, ◌++◌, map, take}
use Rattle.context_search.specs.Marks.{at_of, contexts_over}
use Rattle.context_search.proofs.spots.add_pieces.Given as goal

-- the contexts of the pieces so far are added
abbrev pub invariant-loop-piece : goal.invariant-loop-piece
invariant-loop-piece l = map at_of l.spots.items
    ≡ map at_of l.fn.spots.items ++ contexts_over (take l.piece-index l.pieces)
