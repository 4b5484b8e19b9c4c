-- By one departure more an arc leads to its piece alone.
use Rattle.std.proofs.Common.{List, take, get_or, pos, sym, subst, IsTrue, inl, inr}
use Rattle.std.proofs.lemmas.List.{take_more, take_all}
use Rattle.road_base.specs.declared.ids.Dir.TheVariants.{Forward}
use Rattle.road_model.specs.Blocks.{IsArcEntry}
use Rattle.way_pieces.specs.declared.departures.Departure.{Departure}
use Rattle.expanded_graph.specs.Intersections.{may_follow}
use Rattle.ordered_lists.proofs.ListMembers.{In, in_get, push_cases, in_from_contains, contains_from_in}
use Rattle.expanded_graph.proofs.arcs.are_free.Goals as goal

abbrev none : Departure
none = record {
  piece = record { way = record { 0 = pos 0 }; index = 0; dir = Forward };
  first = record { way = record { 0 = pos 0 }; index = 0; dir = Forward };
  toward = record { 0 = pos 0 };
}

pub is_free-requires-clause-departure : goal.is_free-requires-clause-departure
is_free-requires-clause-departure g c =
    let ds = c.args.intersection.now.departures.now in
    let n = c.loop-departure.departure-index in
    contains_from_in ds (get_or ds n none) (in_get ds n none c.loop-departure-test.true)

pub loop-departure-init : goal.loop-departure-init
loop-departure-init g c = λ d u b among follow reached. absurd among

pub loop-departure-preserved : goal.loop-departure-preserved
loop-departure-preserved g c = λ d u b among follow reached.
    let M = g.M.World.objects c.args.network.now.world.now in
    let P = g.P.Profile.rules c.args.network.now.profile in
    let i = c.args.intersection.now in
    let ds = i.departures.now in
    let n = c.loop-departure.departure-index in
    let e = get_or ds n none in
    let there = subst (λ (l : List Departure). In d l) (take_more ds n none c.loop-departure-test.true) among in
    elim (push_cases (take n ds) e d there) [
      | inl j ↦ c.loop-departure.invariant d u b j follow reached
      | inr same ↦ subst (λ (x : Departure). IsArcEntry M P b (record { piece = x.piece; length = 1 })) (sym same)
          (c.is_free.ensures c.if-not-is_free.false u b
          (subst (λ (x : Departure). IsTrue (may_follow i u x)) same follow) reached)
    ]

pub returns : goal.returns
returns g c = λ t d u b has follow reached.
    let ds = c.args.intersection.now.departures.now in
    c.loop-departure.invariant d u b
    (subst (In d) (sym (take_all c.loop-departure.departure-index ds c.loop-departure-test.false))
    (in_from_contains ds d has)) follow reached
