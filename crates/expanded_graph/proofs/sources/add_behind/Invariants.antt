use Rattle.std.proofs.Common.{◌≡◌, List, [], ◌∷◌, map, take}
use Rattle.road_model.specs.Pieces.{Span, IsPiece}
use Rattle.road_model.specs.Blocks.{name_of}
use Rattle.way_pieces.specs.Names.{piece_of}
use Rattle.expanded_graph.specs.declared.sources.Leading.{Leading}
use Rattle.expanded_graph.specs.Sources.{Gains, IsLeadingOf}
use Rattle.expanded_graph.proofs.SourceStates.{LeadsIn}
use Rattle.expanded_graph.proofs.sources.add_behind.Given as goal

-- the arcs from the piece alone and from the states so far were added
abbrev pub invariant-loop-ending : goal.invariant-loop-ending
invariant-loop-ending g l =
    let M = g.M.World.objects l.coming.network.now.world.now in
    let P = g.P.Profile.rules l.coming.network.now.profile in
    let ns = take l.ending-index (map (λ e. e.state) l.here) in
    let q = piece_of l.coming.span in
    (p : Span) → IsPiece M P p → l.departure.piece ≡ name_of p
    → (first : List Leading) → Gains (IsLeadingOf M P (q ∷ []) p) first l.initial.list.items
    → Gains (LeadsIn M P l.coming.states.now.automaton.states q p ns) first l.list.items
