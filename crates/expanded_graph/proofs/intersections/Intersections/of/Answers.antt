-- What comes to the nodes is told beside what leaves them.
use Rattle.std.proofs.Common.{List, subst}
use Rattle.way_lines.specs.declared.node_rules.NodeRules.{NodeRules}
use Rattle.expanded_graph.specs.Intersections.{AreComingAll}
use Rattle.expanded_graph.proofs.intersections.Intersections.of.Goals as goal

pub returns : goal.returns
returns g c =
    let M = g.M.World.objects c.args.network.now.world.now in
    let P = g.P.Profile.rules c.args.network.now.profile in
    let states = c.args.watched.now.states in
    let Coming : List NodeRules → Type 0 =
    λ l. AreComingAll M P states.automaton states.facts.items l c.in_ok-arrivals.arrivals in
    record {
      leaving = c.in_ok-left.ensures.leaving;
      free = c.in_ok-left.ensures.free;
      coming = subst Coming c.as_slice.ensures.value c.in_ok-arrivals.ensures;
    }
