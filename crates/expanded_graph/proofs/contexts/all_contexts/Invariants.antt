use Rattle.std.proofs.Common.{map, take}
use Rattle.way_pieces.specs.Names.{piece_of}
use Rattle.expanded_graph.proofs.ContextLists.{Gathered}
use Rattle.expanded_graph.proofs.contexts.all_contexts.Given as goal

-- the contexts so far are the piece alone and those in the endings so far
abbrev pub invariant-loop-ending : goal.invariant-loop-ending
invariant-loop-ending g l =
    Gathered (g.M.World.objects l.coming.network.now.world.now) (g.P.Profile.rules l.coming.network.now.profile)
    l.coming.states.now.automaton
    (piece_of l.coming.span) (take l.ending-index (map (λ e. e.state) l.here)) l.contexts.items
