use Rattle.std.proofs.Common.{[], take}
use Rattle.expanded_graph.specs.Known.{GainsApart, IsOnSome}
use Rattle.expanded_graph.proofs.words.relations_of.Given as goal

-- the relations of the ways so far are listed but some known ones
abbrev pub invariant-loop-way : goal.invariant-loop-way
invariant-loop-way g l =
    GainsApart l.known (IsOnSome (g.M.World.objects l.network.world.now) (take l.way-index l.ways)) [] l.list.items
