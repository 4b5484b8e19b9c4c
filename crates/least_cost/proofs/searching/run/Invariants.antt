use Rattle.graph_blocks.specs.Lent.{map_of as block_map}
use Rattle.context_search.specs.Listed.{contexts_in}
use Rattle.least_cost.specs.Certified.{AtMost}
use Rattle.least_cost.specs.CostVisits.{IsVisiting, Extends, AreDone, IsFoundAfter, cost_in}
use Rattle.least_cost.proofs.searching.run.Given as goal

-- the search is done with each visit, but with those that wait
abbrev pub invariant-loop : goal.invariant-loop
invariant-loop l = record {
  search : IsVisiting (contexts_in (block_map l.blocks)) l.search;
  extends : Extends l.fn.search.visits l.search.visits;
  done : AreDone (contexts_in (block_map l.blocks)) l.goals l.to (cost_in l.found) l.search;
  less : AtMost (cost_in l.found) (cost_in l.fn.best);
  found : IsFoundAfter l.goals l.search.visits l.fn.best l.found;
}
