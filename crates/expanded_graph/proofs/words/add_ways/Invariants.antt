use Rattle.std.proofs.Common.{take}
use Rattle.expanded_graph.specs.Near.{HasStepOn}
use Rattle.expanded_graph.specs.Known.{GainsApart}
use Rattle.expanded_graph.proofs.words.add_ways.Given as goal

-- the ways of the steps so far are added but some known ones
abbrev pub invariant-loop-at : goal.invariant-loop-at
invariant-loop-at l = GainsApart l.known (λ w. HasStepOn w (take l.at l.steps)) l.initial.list.items l.list.items
