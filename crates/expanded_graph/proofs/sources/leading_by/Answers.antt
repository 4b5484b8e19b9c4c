-- The arcs from the contexts of one arrival more were added, and all pieces from which one drives on arrive.
use Rattle.std.proofs.Common.{◌≡◌, List, [], take, get_or, sym, ap, ◌∙◌, subst, IsTrue, Contains}
use Rattle.std.proofs.lemmas.List.{take_more, take_all}
use Rattle.road_model.specs.Pieces.{Span, spell}
use Rattle.road_model.specs.Blocks.{name_of}
use Rattle.way_pieces.specs.declared.arrivals.Arrival.{Arrival}
use Rattle.way_pieces.specs.Names.{piece_of, IsArrival}
use Rattle.expanded_graph.specs.declared.arrivals.Incoming.{Incoming}
use Rattle.expanded_graph.specs.declared.arrivals.ToldArrival.{ToldArrival}
use Rattle.expanded_graph.specs.declared.sources.Leading.{Leading}
use Rattle.expanded_graph.specs.Arrivals.{arrival_of}
use Rattle.expanded_graph.specs.Sources.{Gains, IsLeadingBehind}
use Rattle.expanded_graph.specs.Watched.{IsPlainPiece}
use Rattle.ordered_lists.proofs.ListMembers.{in_get, in_map, from_map, in_from_contains, contains_from_in}
use Rattle.expanded_graph.proofs.SourceArrivals.{AreFrom, from_none, from_more, from_all}
use Rattle.expanded_graph.proofs.SourceEnds.{arrives}
use Rattle.expanded_graph.proofs.sources.leading_by.Goals as goal

abbrev span : Incoming → Span
span a = piece_of (arrival_of a).span

pub add_arrival-requires-clause-arrival : goal.add_arrival-requires-clause-arrival
add_arrival-requires-clause-arrival g c =
    let M = g.M.World.objects c.args.network.now.world.now in
    let P = g.P.Profile.rules c.args.network.now.profile in
    let cs = c.args.meeting.arrivals.now in
    let i = c.loop-incoming.incoming-index in
    let all = c.requires.arrivals.listed in
    subst (λ (t : ToldArrival). IsArrival M P c.args.meeting.intersection.rules.node t.arrival) (sym c.told.ensures)
    (all.sound _ (contains_from_in _ _
    (in_map arrival_of cs (get_or cs i _) (in_get cs i _ c.loop-incoming-test.true))))

pub add_arrival-requires-clause-plain : goal.add_arrival-requires-clause-plain
add_arrival-requires-clause-plain g c =
    let M = g.M.World.objects c.args.network.now.world.now in
    let P = g.P.Profile.rules c.args.network.now.profile in
    let states = c.args.tables.now.watched.states in
    let cs = c.args.meeting.arrivals.now in
    let i = c.loop-incoming.incoming-index in
    subst (λ (t : ToldArrival). IsTrue t.is_plain
    → IsPlainPiece M P states.automaton states.facts.items (piece_of t.arrival.span)) (sym c.told.ensures)
    (c.requires.arrivals.plain _
    (contains_from_in cs (get_or cs i _) (in_get cs i _ c.loop-incoming-test.true)))

pub add_arrival-requires-clause-departure : goal.add_arrival-requires-clause-departure
add_arrival-requires-clause-departure g c =
    subst (Contains c.args.meeting.intersection.departures.now) (sym c.onward_by-onward.ensures.departure)
    c.requires.departure

pub add_arrival-requires-clause-onward : goal.add_arrival-requires-clause-onward
add_arrival-requires-clause-onward g c = c.onward_by-onward.ensures.is

pub loop-incoming-init : goal.loop-incoming-init
loop-incoming-init g c = λ p is named.
    let M = g.M.World.objects c.args.network.now.world.now in
    let P = g.P.Profile.rules c.args.network.now.profile in
    subst (λ (l : List Leading). AreFrom M P p span [] l) (sym c.in_ok-list.ensures.items) (from_none M P p span)

pub loop-incoming-preserved : goal.loop-incoming-preserved
loop-incoming-preserved g c = λ p is named.
    let M = g.M.World.objects c.args.network.now.world.now in
    let P = g.P.Profile.rules c.args.network.now.profile in
    let cs = c.args.meeting.arrivals.now in
    let i = c.loop-incoming.incoming-index in
    let more = c.add_arrival.new.list.items in
    subst (λ (l : List Incoming). AreFrom M P p span l more) (sym (take_more cs i _ c.loop-incoming-test.true))
    (from_more M P p span (take i cs) (get_or cs i _) c.loop-incoming.list.items more
    (c.loop-incoming.invariant p is named)
    (subst (λ (t : ToldArrival). Gains (IsLeadingBehind M P (piece_of t.arrival.span) p) c.loop-incoming.list.items
    more)
    c.told.ensures
    (c.in_ok-add_arrival.ensures p is (ap (λ d. d.piece) c.onward_by-onward.ensures.departure ∙ named))))

pub returns : goal.returns
returns g c = λ p is named.
    let M = g.M.World.objects c.args.network.now.world.now in
    let P = g.P.Profile.rules c.args.network.now.profile in
    let cs = c.args.meeting.arrivals.now in
    let ls = c.loop-incoming.list.items in
    let node = c.args.meeting.intersection.rules.node in
    let d = c.requires.intersection.leaving.sound c.args.departure c.requires.departure in
    let same : p ≡ d.piece = c.one_name.ensures.pieces M p d.piece is d.is (sym named ∙ d.named) in
    let all = subst (λ (l : List Incoming). AreFrom M P p span l ls)
    (take_all c.loop-incoming.incoming-index cs c.loop-incoming-test.false) (c.loop-incoming.invariant p is named) in
    from_all M P p span cs ls
    (λ front q there legal.
    let r = arrives M P front q p there legal c.args.departure.first d.more (ap spell same ∙ d.begins) node d.leaves in
    let a : Arrival = record { span = record { name = name_of q; end = q.end }; from = r.0 } in
    let listed = c.requires.arrivals.listed.complete a (record { is = there; arrives = r.1 }) in
    let x = from_map arrival_of cs a (in_from_contains _ a listed) in
    (x.0, x.1, ap (λ (y : Arrival). piece_of y.span) (sym x.2))) all
