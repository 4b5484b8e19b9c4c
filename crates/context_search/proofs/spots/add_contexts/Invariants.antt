use Rattle.std.proofs.Common.{◌≡◌, ◌++◌, map, take}
use Rattle.context_search.specs.Marks.{at_of, at_by}
use Rattle.context_search.proofs.spots.add_contexts.Given as goal

-- the contexts so far are added
abbrev pub invariant-loop-context : goal.invariant-loop-context
invariant-loop-context l = map at_of l.spots.items
    ≡ map at_of l.fn.spots.items ++ map (at_by l.piece) (take l.context-index l.context-items)
