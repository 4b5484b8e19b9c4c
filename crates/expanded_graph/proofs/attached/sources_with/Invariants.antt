use Rattle.std.proofs.Common.{◌≡◌, map, take}
use Rattle.expanded_graph.proofs.attached.sources_with.Given as goal

-- the sources so far are those of the arcs so far
abbrev pub invariant-loop-arc : goal.invariant-loop-arc
invariant-loop-arc l = l.sources.items ≡ map (λ a. a.source) (take l.arc-index l.here)
