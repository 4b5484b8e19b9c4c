use Rattle.expanded_graph.proofs.SourceWritten.{Written}
use Rattle.expanded_graph.proofs.attached.with_sources.Given as goal

-- the contexts so far were written with their sources
abbrev pub invariant-loop-context : goal.invariant-loop-context
invariant-loop-context g l =
    Written (g.M.World.objects l.network.world.now) (g.P.Profile.rules l.network.profile) l.sorted.items
    l.initial.context-iterator.rest.items l.yielded l.context-iterator.rest.items l.list.items
