-- One departure more was looked at, and an arc leads by a departure.
use Rattle.std.proofs.Common.{◌≡◌, ◌+◌, [], take, get_or, pos, sym, ap, ◌∙◌, subst}
use Rattle.std.proofs.lemmas.List.{take_all}
use Rattle.road_base.specs.declared.ids.Dir.TheVariants.{Forward}
use Rattle.road_model.specs.declared.lists.TurnArc.{TurnArc}
use Rattle.road_model.specs.declared.lists.PieceName.{PieceName}
use Rattle.road_model.specs.Orders.{name_cmp}
use Rattle.road_model.specs.Blocks.{IsArcEntry}
use Rattle.way_pieces.specs.declared.departures.Departure.{Departure}
use Rattle.ordered_lists.proofs.ListMembers.{in_get, contains_from_in}
use Rattle.expanded_graph.proofs.NextDepartures.{Laws}
use Rattle.expanded_graph.proofs.ContextArcs.{departs, one_arc}
use Rattle.expanded_graph.proofs.Chosen.{Chosen, chosen_none, chosen_skip_at, chosen_one_at, chosen_all}
use Rattle.expanded_graph.proofs.arcs.arcs_at.Goals as goal
use Rattle.expanded_graph.proofs.arcs.arcs_at.Goals.{in-Some+in_ok-push, in_default}

abbrev none : Departure
none = record {
  piece = record { way = record { 0 = pos 0 }; index = 0; dir = Forward };
  first = record { way = record { 0 = pos 0 }; index = 0; dir = Forward };
  toward = record { 0 = pos 0 };
}

pub arc_by-requires-clause-departure : goal.arc_by-requires-clause-departure
arc_by-requires-clause-departure g c =
    let ds = c.args.coming.now.intersection.departures.now in
    let i = c.loop-departure.departure-index in
    contains_from_in c.args.coming.now.intersection.departures.now (get_or ds i none)
    (in_get ds i none c.loop-departure-test.true)

pub loop-departure-init : goal.loop-departure-init
loop-departure-init g c = λ b reached.
    let M = g.M.World.objects c.args.coming.now.network.now.world.now in
    let P = g.P.Profile.rules c.args.coming.now.network.now.profile in
    subst (λ l. Chosen (λ a. a.piece) (λ (d : Departure). d.piece) name_cmp (IsArcEntry M P b) [] l)
    (sym c.in_ok-arcs.ensures.items)
    (chosen_none (λ a. a.piece) (λ (d : Departure). d.piece) name_cmp c.name_order.ensures.names
    (IsArcEntry M P b))

pub loop-departure-preserved : goal.loop-departure-preserved
loop-departure-preserved g c = λ b reached.
    let M = g.M.World.objects c.args.coming.now.network.now.world.now in
    let P = g.P.Profile.rules c.args.coming.now.network.now.profile in
    let i = c.args.coming.now.intersection in
    let ds = c.args.coming.now.intersection.departures.now in
    let n = c.loop-departure.departure-index in
    let so_far = c.loop-departure.arcs.items in
    let key : Departure → PieceName = λ d. d.piece in
    let Is = IsArcEntry M P b in
    let laws : Laws M P =
    record {
      names = c.name_order.ensures.names;
      one = c.one_name.ensures.pieces M;
      depart = c.steps_depart.ensures M;
    } in
    let up = c.requires.coming.intersection.leaving in
    let within = c.loop-departure-test.true in
    elim c.match-arc_by.branch [
      | in-Some+in_ok-push w ↦
          let a = w.in-Some.arc in
          let has = w.in-Some.ensures.arc b reached in
          let named = w.in-Some.ensures.named in
          let more = chosen_one_at (λ (x : TurnArc). x.piece) key name_cmp c.name_order.ensures.names Is ds
          up.ascending so_far n within none (c.loop-departure.invariant b reached) a has named
          (λ x is same. one_arc M P laws (c.context_goes_on.ensures M) c.args.coming.now.states.now.automaton
          c.args.coming.now.states.now.facts.items c.args.state.0 i c.requires.coming.intersection
          c.args.coming.now.from b reached
          (c.contexts.ensures.one M) x a is has same) in
          subst (λ l. Chosen (λ x. x.piece) key name_cmp Is (take (n + 1) ds) l)
          (sym (ap (λ v. v.items) w.arcs-is ∙ w.in_ok-push.ensures.items)) more
      | in_default w ↦
          let less = chosen_skip_at (λ (x : TurnArc). x.piece) key name_cmp c.name_order.ensures.names Is ds
          up.ascending so_far n within none (c.loop-departure.invariant b reached)
          (λ x is same. w.in_default.ensures.none b x reached is same) in
          subst (λ l. Chosen (λ x. x.piece) key name_cmp Is (take (n + 1) ds) l) (sym (ap (λ v. v.items) w.arcs-is))
          less
    ]

pub returns : goal.returns
returns g c = λ b reached.
    let M = g.M.World.objects c.args.coming.now.network.now.world.now in
    let P = g.P.Profile.rules c.args.coming.now.network.now.profile in
    let i = c.args.coming.now.intersection in
    let ds = c.args.coming.now.intersection.departures.now in
    let key : Departure → PieceName = λ d. d.piece in
    let Is = IsArcEntry M P b in
    let laws : Laws M P =
    record {
      names = c.name_order.ensures.names;
      one = c.one_name.ensures.pieces M;
      depart = c.steps_depart.ensures M;
    } in
    let all : take c.loop-departure.departure-index ds ≡ i.departures.now =
    take_all c.loop-departure.departure-index ds c.loop-departure-test.false in
    let chosen =
    subst (λ l. Chosen (λ x. x.piece) key name_cmp Is l c.loop-departure.arcs.items) all
    (c.loop-departure.invariant b reached) in
    chosen_all (λ (x : TurnArc). x.piece) key name_cmp c.name_order.ensures.names Is i.departures.now
    c.loop-departure.arcs.items chosen
    (departs M P laws (c.context_goes_on.ensures M) c.args.coming.now.states.now.automaton
    c.args.coming.now.states.now.facts.items
    c.args.state.0 i c.requires.coming.intersection c.args.coming.now.from b reached)
