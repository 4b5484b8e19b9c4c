use Rattle.std.proofs.Common.{◌≡◌, take, filter_map}
use Rattle.expanded_graph.specs.Travel.{place_of}
use Rattle.expanded_graph.proofs.places.located.Given as goal

abbrev pub invariant-loop-passed : goal.invariant-loop-passed
invariant-loop-passed l = l.places.items ≡ filter_map place_of (take l.passed-index l.nodes)
