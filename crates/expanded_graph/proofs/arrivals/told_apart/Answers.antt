-- One arrival more was told apart.
use Rattle.std.proofs.Common.{◌≡◌, List, map, get_or, sym, ap, ◌∙◌, subst, IsTrue, Contains}
use Rattle.std.proofs.lemmas.List.{take_all}
use Rattle.ordered_lists.specs.Orders.{Lists}
use Rattle.road_model.specs.Orders.{name_cmp}
use Rattle.way_pieces.specs.declared.arrivals.Arrival.{Arrival}
use Rattle.way_pieces.specs.Names.{IsArrival, piece_of}
use Rattle.expanded_graph.specs.declared.arrivals.Incoming.{Incoming}
use Rattle.expanded_graph.specs.Arrivals.{arrival_of}
use Rattle.expanded_graph.specs.Watched.{IsPlainPiece}
use Rattle.ordered_lists.proofs.ListMembers.{contains_none, contains_from_in, in_get}
use Rattle.expanded_graph.proofs.Taken.{made_more, all_more}
use Rattle.expanded_graph.proofs.arrivals.told_apart.Goals as goal

pub is_plain-requires-clause-piece : goal.is_plain-requires-clause-piece
is_plain-requires-clause-piece g c =
    let all = c.args.arrivals.now in
    let i = c.loop-arrival.arrival-index in
    (c.requires.arrivals.sound _ (contains_from_in all (get_or all i _) (in_get all i _ c.loop-arrival-test.true))).is

pub loop-arrival-init : goal.loop-arrival-init
loop-arrival-init g c =
    let none = c.in_ok-list.ensures.items in
    record {
      same = ap (map arrival_of) none;
      plain = λ x has. absurd (contains_none x (subst (λ (l : List Incoming). Contains l x) none has));
    }

pub loop-arrival-preserved : goal.loop-arrival-preserved
loop-arrival-preserved g c =
    let M = g.M.World.objects c.args.network.now.world.now in
    let P = g.P.Profile.rules c.args.network.now.profile in
    let m = c.args.watched.now.states.automaton in
    let facts = c.args.watched.now.states.facts.items in
    let so_far = c.loop-arrival.list.items in
    let more = c.push.new.self.items in
    let grown = c.in_ok-push.ensures.items in
    let x = c.of.result in
    record {
      same = made_more arrival_of so_far more x c.args.arrivals.now c.loop-arrival.arrival-index _
          c.loop-arrival-test.true grown c.of.ensures.arrival c.loop-arrival.invariant.same;
      plain = all_more
          (λ (y : Incoming). IsTrue y.is_plain → IsPlainPiece M P m facts (piece_of (arrival_of y).span)) so_far more x
          grown c.loop-arrival.invariant.plain
          (λ t. subst (λ (a : Arrival). IsPlainPiece M P m facts (piece_of a.span)) (sym c.of.ensures.arrival)
          (c.is_plain.ensures (sym c.of.ensures.plain ∙ t)));
    }

pub returns : goal.returns
returns g c =
    let M = g.M.World.objects c.args.network.now.world.now in
    let P = g.P.Profile.rules c.args.network.now.profile in
    let all : map arrival_of c.loop-arrival.list.items ≡ c.args.arrivals.now =
    c.loop-arrival.invariant.same
    ∙ take_all c.loop-arrival.arrival-index c.args.arrivals.now c.loop-arrival-test.false in
    record {
      listed = subst (λ (l : List Arrival). Lists (λ a. a.span.name) name_cmp (IsArrival M P c.args.node) l) (sym all)
          c.requires.arrivals;
      plain = c.loop-arrival.invariant.plain;
    }
