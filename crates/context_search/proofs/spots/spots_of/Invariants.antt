use Rattle.std.proofs.Common.{◌≡◌, ◌++◌, map, length}
use Rattle.context_search.specs.Marks.{at_of, all_contexts}
use Rattle.context_search.proofs.spots.spots_of.Given as goal

-- the contexts of the blocks that have been gone over are added
abbrev pub invariant-loop-block : goal.invariant-loop-block
invariant-loop-block l = map at_of l.spots.items ++ all_contexts l.rest ≡ all_contexts l.fn.blocks

abbrev pub decreases-loop-block : goal.decreases-loop-block
decreases-loop-block l = length l.rest
