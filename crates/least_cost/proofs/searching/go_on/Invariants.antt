use Rattle.std.proofs.Common.{take}
use Rattle.graph_blocks.specs.Lent.{map_of as block_map}
use Rattle.context_search.specs.Marks.{at_of}
use Rattle.context_search.specs.Listed.{contexts_in}
use Rattle.least_cost.specs.CostVisits.{IsVisiting, Widens, AreFollowed}
use Rattle.least_cost.proofs.searching.go_on.Given as goal

-- the arcs so far are followed
abbrev pub invariant-loop-arc : goal.invariant-loop-arc
invariant-loop-arc l = record {
  search : IsVisiting (contexts_in (block_map l.blocks)) l.search;
  grows : Widens l.fn.search l.search;
  followed : AreFollowed (contexts_in (block_map l.blocks)) l.search.visits (at_of l.visit.spot) l.visit.cost
      (take l.arc-index l.arc-items);
}
