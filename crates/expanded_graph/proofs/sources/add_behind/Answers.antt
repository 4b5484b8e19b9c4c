-- The arcs from the piece alone were added, from one state more, and from all in which contexts end with it.
use Rattle.std.proofs.Common.{◌≡◌, ℕ, ◌<◌, ◌≤◌, List, [], ◌∷◌, ◌++◌, length, map, take, get_or, sym, subst}
use Rattle.std.proofs.Common.{Some, slice_get}
use Rattle.std.proofs.lemmas.List.{take_more, take_all, get_or-map, length-map}
use Rattle.way_pieces.specs.Names.{piece_of}
use Rattle.expanded_graph.specs.declared.endings.Ending.{Ending}
use Rattle.expanded_graph.specs.Sources.{EndsIn, Gains}
use Rattle.ordered_lists.proofs.ListMembers.{in_from_contains}
use Rattle.expanded_graph.proofs.ContextStates.{StepLaws, context_there, ends_in, reached_alone}
use Rattle.expanded_graph.proofs.EndingStates.{are_here, ends_here}
use Rattle.expanded_graph.proofs.SourceStates.{LeadsIn, gains_alone, gains_more, gains_all}
use Rattle.expanded_graph.proofs.sources.add_behind.Goals as goal

pub add_arc-requires-clause-reached : goal.add_arc-requires-clause-reached
add_arc-requires-clause-reached g c =
    let M = g.M.World.objects c.args.coming.now.network.now.world.now in
    let P = g.P.Profile.rules c.args.coming.now.network.now.profile in
    let q = piece_of c.args.coming.now.span in
    let last = c.last_step.ensures in (
      q ∷ [],
      reached_alone M P (c.drive_grows.ensures.alone M) c.args.coming.now.states.now.automaton
          c.args.coming.now.states.now.facts.items q c.requires.coming.piece c.requires.coming.states last.0
          c.last_step.result last.1 c.start-alone.result.0 c.start-alone.ensures.state c.args.coming.now.from
          c.args.coming.now.intersection.rules.node c.requires.coming.arrives,
      c.one.ensures,
    )

pub add_in-requires-clause-ending : goal.add_in-requires-clause-ending
add_in-requires-clause-ending g c =
    let m = c.args.coming.now.states.now.automaton in
    let facts = c.args.coming.now.states.now.facts.items in
    let here = c.endings_with-here.result.now in
    let are = are_here m facts c.args.coming.now.span.name here c.args.coming.now.endings.now c.requires.coming.endings
    c.endings_with-here.ensures in
    (ends_here m facts c.args.coming.now.span.name here are c.loop-ending.ending-index _ c.loop-ending-test.true).0

pub add_in-requires-clause-named : goal.add_in-requires-clause-named
add_in-requires-clause-named g c =
    let m = c.args.coming.now.states.now.automaton in
    let facts = c.args.coming.now.states.now.facts.items in
    let here = c.endings_with-here.result.now in
    let are = are_here m facts c.args.coming.now.span.name here c.args.coming.now.endings.now c.requires.coming.endings
    c.endings_with-here.ensures in
    (ends_here m facts c.args.coming.now.span.name here are c.loop-ending.ending-index _ c.loop-ending-test.true).1

pub loop-ending-init : goal.loop-ending-init
loop-ending-init g c = λ p is named first alone.
    let M = g.M.World.objects c.args.coming.now.network.now.world.now in
    let P = g.P.Profile.rules c.args.coming.now.network.now.profile in
    let m = c.args.coming.now.states.now.automaton in
    gains_alone M P m.states (piece_of c.args.coming.now.span) p first c.add_arc.new.list.items alone

pub loop-ending-preserved : goal.loop-ending-preserved
loop-ending-preserved g c = λ p is named first alone.
    let M = g.M.World.objects c.args.coming.now.network.now.world.now in
    let P = g.P.Profile.rules c.args.coming.now.network.now.profile in
    let m = c.args.coming.now.states.now.automaton in
    let facts = c.args.coming.now.states.now.facts.items in
    let q = piece_of c.args.coming.now.span in
    let here = c.endings_with-here.result.now in
    let ns : List ℕ = map (λ (e : Ending). e.state) here in
    let i = c.loop-ending.ending-index in
    let laws : StepLaws M P =
    record {
      one = c.one_name.ensures.pieces M;
      to = c.context_steps.ensures.to M;
      from = c.context_steps.ensures.from M;
    } in
    let are = are_here m facts c.args.coming.now.span.name here c.args.coming.now.endings.now c.requires.coming.endings
    c.endings_with-here.ensures in
    let ends = ends_here m facts c.args.coming.now.span.name here are i _ c.loop-ending-test.true in
    let there = context_there M P laws m facts c.closed.ensures.closed c.closed.ensures.lists q c.requires.coming.piece
    c.requires.coming.states _ ends.0 ends.1 in
    let state = get_or-map (λ (e : Ending). e.state) here i _ 0 c.loop-ending-test.true in
    let list = ends.0.first ∷ (ends.0.middle ++ ends.0.last ∷ []) in
    let it : EndsIn M P m.states q (get_or ns i 0) there.0 = record {
      context = there.3;
      steps = list;
      at = subst (λ n. slice_get m.states n ≡ Some list) (sym state) ends.0.at;
      turn = there.2;
    } in
    let within : i < length ns =
    subst (λ k. i < k) (sym (length-map here (λ (e : Ending). e.state))) c.loop-ending-test.true in
    subst (λ l. Gains (LeadsIn M P m.states q p l) first c.add_in.new.list.items)
    (sym (take_more ns i 0 within))
    (gains_more M P m.states q p (c.context_steps.ensures.one M) (take i ns) (get_or ns i 0) there.0 it
    first c.loop-ending.list.items c.add_in.new.list.items (c.loop-ending.invariant p is named first alone)
    (c.in_ok-add_in.ensures p there.0 is named
    (record { context = there.3; steps = list; at = ends.0.at; turn = there.2 })))

pub returns : goal.returns
returns g c = λ p is named.
    let M = g.M.World.objects c.args.coming.now.network.now.world.now in
    let P = g.P.Profile.rules c.args.coming.now.network.now.profile in
    let m = c.args.coming.now.states.now.automaton in
    let facts = c.args.coming.now.states.now.facts.items in
    let q = piece_of c.args.coming.now.span in
    let here = c.endings_with-here.result.now in
    let ns : List ℕ = map (λ (e : Ending). e.state) here in
    let i = c.loop-ending.ending-index in
    let laws : StepLaws M P =
    record {
      one = c.one_name.ensures.pieces M;
      to = c.context_steps.ensures.to M;
      from = c.context_steps.ensures.from M;
    } in
    let are = are_here m facts c.args.coming.now.span.name here c.args.coming.now.endings.now c.requires.coming.endings
    c.endings_with-here.ensures in
    let beyond : length ns ≤ i =
    subst (λ k. k ≤ i) (sym (length-map here (λ (e : Ending). e.state))) c.loop-ending-test.false in
    let first = c.args.list.now.items in
    let last = c.loop-ending.list.items in
    let step = c.last_step.ensures in
    let reached = reached_alone M P (c.drive_grows.ensures.alone M) m facts q c.requires.coming.piece
    c.requires.coming.states step.0 c.last_step.result step.1 c.start-alone.result.0 c.start-alone.ensures.state
    c.args.coming.now.from c.args.coming.now.intersection.rules.node c.requires.coming.arrives in
    let all = subst (λ l. Gains (LeadsIn M P m.states q p l) first last) (take_all i ns beyond)
    (c.loop-ending.invariant p is named first (c.in_ok-add_arc.ensures (q ∷ []) p reached c.one.ensures is named)) in
    gains_all M P m.states q p ns
    (λ before some context.
    let s = ends_in M P laws m facts c.closed.ensures.closed c.closed.ensures.lists q c.requires.coming.piece
    c.requires.coming.states before some context in
    record {
      number = s.number;
      among = in_from_contains ns s.number ((are.each s.number).1 (s.ending, s.named));
      here = record { context = context; steps = s.steps; at = s.at; turn = s.turn };
    }) first last all
