-- Behind the first step of the departure the words decide, and its arc leads to the context of the state.
use Rattle.std.proofs.Common.{◌≡◌, Option, Some, None, refl}
use Rattle.turn_automata.specs.declared.automaton.State.{State}
use Rattle.ordered_lists.proofs.ListMembers.{in_from_contains}
use Rattle.expanded_graph.proofs.NextDepartures.{Laws}
use Rattle.expanded_graph.proofs.ContextArcs.{TargetLaws, none_stops, arc_entry}
use Rattle.expanded_graph.proofs.arcs.arc_ahead.Goals as goal

pub returns-in_default-clause-none : goal.returns-in_default-clause-none
returns-in_default-clause-none g c = λ u b a reached.
    let M = g.M.World.objects c.args.network.now.world.now in
    let P = g.P.Profile.rules c.args.network.now.profile in
    let i = c.args.intersection.now in
    let laws : Laws M P =
    record {
      names = c.name_order.ensures.names;
      one = c.one_name.ensures.pieces M;
      depart = c.steps_depart.ensures M;
    } in
    let more : TargetLaws M P =
    record {
      long = c.words_on_ways.ensures.long M;
      short = c.words_on_ways.ensures.short M;
      decides = c.watched_decides.ensures;
      grows = c.watched_grows.ensures;
      alone =
          c.context_target.ensures.alone M;
      longer = c.context_target.ensures.longer M;
    } in
    none_stops M P laws (c.context_goes_on.ensures M) c.args.states.now.automaton
    c.args.states.now.facts.items
    c.args.state.0 i c.requires.intersection u b reached c.args.departure
    (in_from_contains i.departures.now c.args.departure c.requires.departure) more
    ((c.in_default.ensures.none reached.watches.list reached.watches.is).0 refl) a

not_none : (s : State) → ◌≡◌ {A = Option State} (Some s) None → ⊥
not_none s e = cc

pub returns-clause-arc : goal.returns-clause-arc
returns-clause-arc g c = λ u b follow reached.
    let M = g.M.World.objects c.args.network.now.world.now in
    let P = g.P.Profile.rules c.args.network.now.profile in
    let i = c.args.intersection.now in
    let laws : Laws M P =
    record {
      names = c.name_order.ensures.names;
      one = c.one_name.ensures.pieces M;
      depart = c.steps_depart.ensures M;
    } in
    let more : TargetLaws M P =
    record {
      long = c.words_on_ways.ensures.long M;
      short = c.words_on_ways.ensures.short M;
      decides = c.watched_decides.ensures;
      grows = c.watched_grows.ensures;
      alone =
          c.context_target.ensures.alone M;
      longer = c.context_target.ensures.longer M;
    } in
    let list = reached.watches.list in
    let at = reached.watches.is in
    arc_entry M P laws (c.context_goes_on.ensures M) c.args.states.now.automaton
    c.args.states.now.facts.items
    c.args.state.0 i c.requires.intersection u b reached c.args.departure
    (in_from_contains i.departures.now c.args.departure c.requires.departure) more c.closed.ensures.closed
    follow
    (λ s. not_none c.in-Some.next ((c.in-Some.ensures.none list at).1 s)) c.in-Some.next.0
    (c.in-Some.ensures.some list at) c.target_len-length.result
    (record { alone = c.target_len-length.ensures.alone; longer = c.target_len-length.ensures.longer })
