use Rattle.std.proofs.Common.{take}
use Rattle.graph_blocks.specs.Lent.{map_of}
use Rattle.context_search.specs.Listed.{contexts_in}
use Rattle.context_search.specs.Marks.{at_of}
use Rattle.context_search.specs.Visits.{IsSearch, NoneBegun, Grows, AreFollowed}
use Rattle.context_search.proofs.following.go_on.Given as goal

-- the arcs so far are followed
abbrev pub invariant-loop-arc : goal.invariant-loop-arc
invariant-loop-arc g l = record {
  search : IsSearch (g.F.Phases.rules l.phases) (contexts_in (map_of l.blocks)) l.search;
  grows : Grows (contexts_in (map_of l.blocks)) l.fn.search l.search;
  begun : NoneBegun l.fn.search l.search;
  followed : AreFollowed (g.F.Phases.rules l.phases) (contexts_in (map_of l.blocks)) l.goals l.search.visits
      (at_of l.visit.spot) l.visit.phase (take l.arc-index l.arc-items);
}
