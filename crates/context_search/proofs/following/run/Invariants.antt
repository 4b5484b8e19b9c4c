use Rattle.graph_blocks.specs.Lent.{map_of}
use Rattle.context_search.specs.Listed.{contexts_in}
use Rattle.context_search.specs.Visits.{StateKey, IsSearch, IsVisited, NoneBegun, AreClosed, left}
use Rattle.context_search.proofs.following.run.Given as goal

-- the search has gone on from each visit, but from those that wait
abbrev pub invariant-loop-place : goal.invariant-loop-place
invariant-loop-place g l = record {
  search : IsSearch (g.F.Phases.rules l.phases) (contexts_in (map_of l.blocks)) l.search;
  closed : AreClosed (g.F.Phases.rules l.phases) (contexts_in (map_of l.blocks)) l.goals l.search;
  begun : NoneBegun l.fn.search l.search;
  stays : (k : StateKey) → IsVisited l.fn.search.visits k → IsVisited l.search.visits k;
}

abbrev pub decreases-loop-place : goal.decreases-loop-place
decreases-loop-place g l = left (contexts_in (map_of l.blocks)) l.search
