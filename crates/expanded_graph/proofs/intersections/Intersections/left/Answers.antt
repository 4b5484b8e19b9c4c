-- What leaves the nodes is told of them.
use Rattle.std.proofs.Common.{List, sym, subst}
use Rattle.way_lines.specs.declared.node_rules.NodeRules.{NodeRules}
use Rattle.expanded_graph.specs.Intersections.{AreLeavingAll}
use Rattle.expanded_graph.proofs.intersections.Intersections.left.Goals as goal

pub free_at-requires-clause-leaving : goal.free_at-requires-clause-leaving
free_at-requires-clause-leaving g c =
    let M = g.M.World.objects c.args.network.now.world.now in
    let P = g.P.Profile.rules c.args.network.now.profile in
    subst (λ (l : List NodeRules). AreLeavingAll M P l c.in_ok-rules.departures) (sym c.as_slice.ensures.value)
    c.in_ok-rules.ensures.leaving
