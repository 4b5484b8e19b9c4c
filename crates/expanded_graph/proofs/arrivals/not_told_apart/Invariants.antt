use Rattle.std.proofs.Common.{◌≡◌, map, take, Contains, false}
use Rattle.expanded_graph.specs.declared.arrivals.Incoming.{Incoming}
use Rattle.expanded_graph.specs.Arrivals.{arrival_of}
use Rattle.expanded_graph.proofs.arrivals.not_told_apart.Given as goal

-- the list has the arrivals so far, none of which is said to be plain
abbrev pub invariant-loop-arrival : goal.invariant-loop-arrival
invariant-loop-arrival l = record {
  same : map arrival_of l.list.items ≡ take l.arrival-index l.arrivals;
  none : (c : Incoming) → Contains l.list.items c → c.is_plain ≡ false;
}
