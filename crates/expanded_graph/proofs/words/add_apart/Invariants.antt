use Rattle.std.proofs.Common.{Contains, take}
use Rattle.expanded_graph.specs.Known.{GainsApart}
use Rattle.expanded_graph.proofs.words.add_apart.Given as goal

-- the items so far are added but some known ones
abbrev pub invariant-loop-item : goal.invariant-loop-item
invariant-loop-item g l = GainsApart l.known (Contains (take l.item-index l.items)) l.initial.list.items l.list.items
