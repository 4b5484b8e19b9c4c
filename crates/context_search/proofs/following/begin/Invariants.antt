use Rattle.std.proofs.Common.{take, Contains}
use Rattle.graph_blocks.specs.Lent.{map_of}
use Rattle.context_search.specs.declared.ends.Begin.{Begin}
use Rattle.context_search.specs.Listed.{contexts_in}
use Rattle.context_search.specs.Visits.{IsSearch, IsVisited, Grows, AreBegun, first_key}
use Rattle.context_search.proofs.following.begin.Given as goal

-- the contexts of the starts so far are visited
abbrev pub invariant-loop-start : goal.invariant-loop-start
invariant-loop-start g l = record {
  search : IsSearch (g.F.Phases.rules l.phases) (contexts_in (map_of l.blocks)) l.search;
  grows : Grows (contexts_in (map_of l.blocks)) l.fn.search l.search;
  begun : AreBegun (g.F.Phases.rules l.phases) l.starts l.search;
  all : (s : Begin) → Contains (take l.start-index l.starts) s
      → IsVisited l.search.visits (first_key (g.F.Phases.rules l.phases) s);
}
