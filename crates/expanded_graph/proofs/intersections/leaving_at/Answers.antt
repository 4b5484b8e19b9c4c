-- One node more was asked.
use Rattle.std.proofs.Common.{List, length, sym, ap, ◌∙◌, subst}
use Rattle.ordered_lists.specs.Orders.{Lists}
use Rattle.road_model.specs.Orders.{name_cmp}
use Rattle.way_pieces.specs.declared.departures.Departure.{Departure}
use Rattle.way_pieces.specs.Names.{IsDeparture}
use Rattle.expanded_graph.specs.Intersections.{AreKnownAt}
use Rattle.expanded_graph.proofs.Pairs.{none_together, as_many_more, one_more_together}
use Rattle.expanded_graph.proofs.intersections.leaving_at.Goals as goal

pub loop-node-init : goal.loop-node-init
loop-node-init g c =
    let M = g.M.World.objects c.args.network.now.world.now in
    let P = g.P.Profile.rules c.args.network.now.profile in
    let none = c.in_ok-rules.ensures.items in
    record {
      count = ap length none ∙ sym (ap length c.in_ok-departures.ensures);
      leaving = none_together (AreKnownAt M P) c.in_ok-rules.rules.items c.in_ok-departures.departures none;
    }

pub loop-node-preserved : goal.loop-node-preserved
loop-node-preserved g c =
    let M = g.M.World.objects c.args.network.now.world.now in
    let P = g.P.Profile.rules c.args.network.now.profile in
    let here = c.of.result in
    let leaving =
    subst (λ (l : List Departure). Lists (λ d. d.piece) name_cmp (IsDeparture M P here.node) l)
    (sym c.as_slice.ensures.value)
    (subst (λ v. Lists (λ d. d.piece) name_cmp (IsDeparture M P v) c.in_ok-leaving.leaving.items)
    (sym c.of.ensures.node) c.in_ok-leaving.ensures) in
    let rules = c.loop-node.rules.items in
    let grown = c.in_ok-push.ensures.items in
    let so_far = c.loop-node.invariant in
    record {
      count = as_many_more (AreKnownAt M P) rules c.push.new.self.items c.loop-node.departures
          c.push-in-loop-node.new.self here c.as_slice.result.now grown c.in_ok-push-2.ensures.ok so_far.count;
      leaving = one_more_together (AreKnownAt M P) rules c.push.new.self.items c.loop-node.departures
          c.push-in-loop-node.new.self here c.as_slice.result.now grown c.in_ok-push-2.ensures.ok so_far.count
          so_far.leaving (record { rules = c.of.ensures.rules; leaving = leaving });
    }

pub returns-clause-leaving : goal.returns-clause-leaving
returns-clause-leaving g c = c.loop-node.invariant.leaving

pub returns-clause-count : goal.returns-clause-count
returns-clause-count g c = c.loop-node.invariant.count
