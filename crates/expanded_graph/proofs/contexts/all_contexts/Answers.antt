-- One ending more was looked at, and the endings have all contexts of two pieces or more.
use Rattle.std.proofs.Common.{ℕ, ◌+◌, ◌<◌, ◌≤◌, List, [], ◌∷◌, ◌++◌, length, map, take, sym, ap, ◌∙◌, subst}
use Rattle.std.proofs.lemmas.List.{take_all, get_or-map, length-map}
use Rattle.way_pieces.specs.Names.{piece_of}
use Rattle.expanded_graph.specs.declared.endings.Ending.{Ending}
use Rattle.expanded_graph.proofs.ContextStates.{StepLaws}
use Rattle.expanded_graph.proofs.EndingStates.{are_here, ends_here}
use Rattle.expanded_graph.proofs.ContextLists.{Gathered, gathered_alone, more_at, has_contexts}
use Rattle.expanded_graph.proofs.contexts.all_contexts.Goals as goal

pub context_in-requires-clause-ending : goal.context_in-requires-clause-ending
context_in-requires-clause-ending g c =
    let here = c.endings_with-here.result.now in
    let are = are_here c.args.coming.now.states.now.automaton c.args.coming.now.states.now.facts.items
    c.args.coming.now.span.name here
    c.args.coming.now.endings.now c.requires.endings c.endings_with-here.ensures in
    (ends_here c.args.coming.now.states.now.automaton c.args.coming.now.states.now.facts.items
    c.args.coming.now.span.name here are
    c.loop-ending.ending-index _ c.loop-ending-test.true).0

pub context_in-requires-clause-named : goal.context_in-requires-clause-named
context_in-requires-clause-named g c =
    let here = c.endings_with-here.result.now in
    let are = are_here c.args.coming.now.states.now.automaton c.args.coming.now.states.now.facts.items
    c.args.coming.now.span.name here
    c.args.coming.now.endings.now c.requires.endings c.endings_with-here.ensures in
    (ends_here c.args.coming.now.states.now.automaton c.args.coming.now.states.now.facts.items
    c.args.coming.now.span.name here are
    c.loop-ending.ending-index _ c.loop-ending-test.true).1

pub loop-ending-init : goal.loop-ending-init
loop-ending-init g c =
    let M = g.M.World.objects c.args.coming.now.network.now.world.now in
    let P = g.P.Profile.rules c.args.coming.now.network.now.profile in
    let m = c.args.coming.now.states.now.automaton in
    let p = piece_of c.args.coming.now.span in
    let laws : StepLaws M P =
    record {
      one = c.one_name.ensures.pieces M;
      to = c.context_steps.ensures.to M;
      from = c.context_steps.ensures.from M;
    } in
    let grown = c.in_ok-push.ensures.items ∙ ap (λ l. l ++ c.in_ok-alone.alone ∷ []) c.in_ok-contexts.ensures.items in
    subst (Gathered M P m p []) (sym grown)
    (gathered_alone M P laws c.name_order.ensures.lists c.name_order.ensures.list_ties m c.closed.ensures.closed p
    c.in_ok-alone.alone c.in_ok-alone.ensures.entry c.in_ok-alone.ensures.alone)

pub loop-ending-preserved : goal.loop-ending-preserved
loop-ending-preserved g c =
    let M = g.M.World.objects c.args.coming.now.network.now.world.now in
    let P = g.P.Profile.rules c.args.coming.now.network.now.profile in
    let m = c.args.coming.now.states.now.automaton in
    let p = piece_of c.args.coming.now.span in
    let here = c.endings_with-here.result.now in
    let ns : List ℕ = map (λ (e : Ending). e.state) here in
    let i = c.loop-ending.ending-index in
    let laws : StepLaws M P =
    record {
      one = c.one_name.ensures.pieces M;
      to = c.context_steps.ensures.to M;
      from = c.context_steps.ensures.from M;
    } in
    let are = are_here m c.args.coming.now.states.now.facts.items c.args.coming.now.span.name here
    c.args.coming.now.endings.now c.requires.endings
    c.endings_with-here.ensures in
    let within : i < length ns =
    subst (λ k. i < k) (sym (length-map here (λ (e : Ending). e.state))) c.loop-ending-test.true in
    subst (Gathered M P m p (take (i + 1) ns)) (sym c.in_ok-push-2.ensures.items)
    (more_at M P laws c.name_order.ensures.lists c.name_order.ensures.list_ties m c.closed.ensures.closed p ns
    are.ascending c.loop-ending.contexts.items i within c.loop-ending.invariant
    _ (get_or-map (λ (e : Ending). e.state) here i _ 0 c.loop-ending-test.true) c.in_ok-context.context
    c.in_ok-context.ensures)

pub returns : goal.returns
returns g c =
    let M = g.M.World.objects c.args.coming.now.network.now.world.now in
    let P = g.P.Profile.rules c.args.coming.now.network.now.profile in
    let m = c.args.coming.now.states.now.automaton in
    let facts = c.args.coming.now.states.now.facts.items in
    let p = piece_of c.args.coming.now.span in
    let here = c.endings_with-here.result.now in
    let ns : List ℕ = map (λ (e : Ending). e.state) here in
    let i = c.loop-ending.ending-index in
    let es = c.loop-ending.contexts.items in
    let laws : StepLaws M P =
    record {
      one = c.one_name.ensures.pieces M;
      to = c.context_steps.ensures.to M;
      from = c.context_steps.ensures.from M;
    } in
    let are = are_here m facts c.args.coming.now.span.name here c.args.coming.now.endings.now c.requires.endings
    c.endings_with-here.ensures in
    let beyond : length ns ≤ i =
    subst (λ k. k ≤ i) (sym (length-map here (λ (e : Ending). e.state))) c.loop-ending-test.false in
    let all = subst (λ l. Gathered M P m p l es) (take_all i ns beyond) c.loop-ending.invariant in
    has_contexts M P laws c.name_order.ensures.lists c.name_order.ensures.list_ties m c.closed.ensures.closed p facts
    c.closed.ensures.lists c.requires.piece c.requires.states (c.context_steps.ensures.one M) ns are es all
