use Rattle.std.proofs.Common.{take}
use Rattle.graph_blocks.specs.Lent.{map_of as block_map}
use Rattle.context_search.specs.Listed.{contexts_in}
use Rattle.least_cost.specs.CostVisits.{IsVisiting, HaveOrigins, AreBegun, AreWaiting}
use Rattle.least_cost.proofs.beginning.begin.Given as goal

-- the starts so far are come to
abbrev pub invariant-loop-start : goal.invariant-loop-start
invariant-loop-start l = record {
  search : IsVisiting (contexts_in (block_map l.blocks)) l.search;
  origins : HaveOrigins l.starts l.search.visits;
  begun : AreBegun (contexts_in (block_map l.blocks)) (take l.start-index l.starts) l.search.visits;
  waiting : AreWaiting l.search;
}
