-- What comes to one node more was told.
use Rattle.std.proofs.Common.{◌+◌, [], List, length, take, get_or, sym, ap, refl, subst}
use Rattle.std.proofs.lemmas.List.{take_more, take_all}
use Rattle.way_lines.specs.declared.node_rules.NodeRules.{NodeRules}
use Rattle.expanded_graph.specs.declared.arrivals.Incoming.{Incoming}
use Rattle.expanded_graph.specs.Arrivals.{AreComing}
use Rattle.expanded_graph.specs.Intersections.{AreComingAll}
use Rattle.expanded_graph.proofs.Pairs.{none_together, as_many_more, one_more_together}
use Rattle.expanded_graph.proofs.intersections.coming_at.Goals as goal

pub loop-known-init : goal.loop-known-init
loop-known-init g c =
    let M = g.M.World.objects c.args.network.now.world.now in
    let P = g.P.Profile.rules c.args.network.now.profile in
    let m = c.args.watched.now.states.automaton in
    let facts = c.args.watched.now.states.facts.items in
    record {
      count = sym (ap length c.in_ok-arrivals.ensures);
      coming = none_together (λ (r : NodeRules) (cs : List Incoming). AreComing M P m facts r.node cs) []
          c.in_ok-arrivals.arrivals refl;
    }

pub loop-known-preserved : goal.loop-known-preserved
loop-known-preserved g c =
    let M = g.M.World.objects c.args.network.now.world.now in
    let P = g.P.Profile.rules c.args.network.now.profile in
    let m = c.args.watched.now.states.automaton in
    let facts = c.args.watched.now.states.facts.items in
    let Is : NodeRules → List Incoming → Type 0 = λ r cs. AreComing M P m facts r.node cs in
    let rules = c.args.rules.now in
    let i = c.loop-known.known-index in
    let r = get_or rules i _ in
    let grown = take_more rules i _ c.loop-known-test.true in
    let told = subst (AreComing M P m facts r.node) (sym c.as_slice.ensures.value) c.in_ok-told.ensures in
    let so_far = c.loop-known.invariant in
    record {
      count = as_many_more Is (take i rules) (take (i + 1) rules) c.loop-known.arrivals c.push.new.self r
          c.as_slice.result.now grown c.in_ok-push.ensures.ok so_far.count;
      coming = one_more_together Is (take i rules) (take (i + 1) rules) c.loop-known.arrivals c.push.new.self r
          c.as_slice.result.now grown c.in_ok-push.ensures.ok so_far.count so_far.coming told;
    }

pub returns : goal.returns
returns g c =
    let M = g.M.World.objects c.args.network.now.world.now in
    let P = g.P.Profile.rules c.args.network.now.profile in
    let m = c.args.watched.now.states.automaton in
    let facts = c.args.watched.now.states.facts.items in
    subst (λ (l : List NodeRules). AreComingAll M P m facts l c.loop-known.arrivals)
    (take_all c.loop-known.known-index c.args.rules.now c.loop-known-test.false) c.loop-known.invariant.coming
