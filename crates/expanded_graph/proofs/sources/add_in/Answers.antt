-- The context that ends in the state is the one whose names these are.
use Rattle.std.proofs.Common.{◌≡◌, [], ◌∷◌, ◌++◌, map, sym, ap, ◌∙◌, subst}
use Rattle.std.proofs.lemmas.List.{map-append}
use Rattle.std.proofs.lemmas.Option.{slice_get_within}
use Rattle.road_model.specs.Turning.{HasTurnSteps}
use Rattle.road_model.specs.Blocks.{name_of}
use Rattle.way_pieces.specs.Names.{piece_of}
use Rattle.expanded_graph.specs.Contexts.{IsReached}
use Rattle.ordered_lists.proofs.ListPlaces.{one_stands}
use Rattle.road_model.proofs.WalkLists.{context_pieces}
use Rattle.expanded_graph.proofs.ContextStates.{StepLaws, context_there, reached_there}
use Rattle.expanded_graph.proofs.sources.add_in.Goals as goal

pub add_arc-requires-clause-state : goal.add_arc-requires-clause-state
add_arc-requires-clause-state g c =
    slice_get_within c.args.coming.now.states.now.automaton.states c.args.state.0 _ c.requires.ending.at

pub add_arc-requires-clause-reached : goal.add_arc-requires-clause-reached
add_arc-requires-clause-reached g c =
    let M = g.M.World.objects c.args.coming.now.network.now.world.now in
    let P = g.P.Profile.rules c.args.coming.now.network.now.profile in
    let m = c.args.coming.now.states.now.automaton in
    let facts = c.args.coming.now.states.now.facts.items in
    let q = piece_of c.args.coming.now.span in
    let laws : StepLaws M P =
    record {
      one = c.one_name.ensures.pieces M;
      to = c.context_steps.ensures.to M;
      from = c.context_steps.ensures.from M;
    } in
    let there = context_there M P laws m facts c.closed.ensures.closed c.closed.ensures.lists q c.requires.coming.piece
    c.requires.coming.states c.args.state.0 c.requires.ending c.requires.named in
    let reached = reached_there M P laws m facts c.closed.ensures.closed c.closed.ensures.lists q
    c.requires.coming.piece c.requires.coming.states c.args.state.0 c.requires.ending c.requires.named
    c.args.coming.now.from c.args.coming.now.intersection.rules.node c.requires.coming.arrives in
    let names = c.in_ok-names.ensures c.args.coming.now.span.name.way there.0 q _ c.requires.coming.states
    (context_pieces M P (there.0 ++ q ∷ []) there.3) there.2 c.requires.ending.at in (
      there.0 ++ q ∷ [],
      reached,
      c.from_list.ensures ∙ (c.in_ok-push.ensures.items ∙ (ap (λ l. l ++ c.args.coming.now.span.name ∷ []) names
          ∙ sym (map-append name_of there.0 (q ∷ [])))),
    )

pub returns : goal.returns
returns g c = λ p before is named it.
    let M = g.M.World.objects c.args.coming.now.network.now.world.now in
    let P = g.P.Profile.rules c.args.coming.now.network.now.profile in
    let m = c.args.coming.now.states.now.automaton in
    let facts = c.args.coming.now.states.now.facts.items in
    let q = piece_of c.args.coming.now.span in
    let laws : StepLaws M P =
    record {
      one = c.one_name.ensures.pieces M;
      to = c.context_steps.ensures.to M;
      from = c.context_steps.ensures.from M;
    } in
    let there = context_there M P laws m facts c.closed.ensures.closed c.closed.ensures.lists q c.requires.coming.piece
    c.requires.coming.states c.args.state.0 c.requires.ending c.requires.named in
    let steps = one_stands m.states c.args.state.0 _ _ it.at c.requires.ending.at in
    let same : there.0 ++ q ∷ [] ≡ before ++ q ∷ [] =
    c.context_steps.ensures.one M (there.0 ++ q ∷ []) (before ++ q ∷ []) _
    (context_pieces M P (there.0 ++ q ∷ []) there.3) (context_pieces M P (before ++ q ∷ []) it.context) there.2
    (subst (HasTurnSteps (before ++ q ∷ [])) steps it.turn) in
    let reached = subst (IsReached M P m facts c.args.state.0 c.args.coming.now.from
    c.args.coming.now.intersection.rules.node) same
    (reached_there M P laws m facts c.closed.ensures.closed c.closed.ensures.lists q
    c.requires.coming.piece c.requires.coming.states c.args.state.0 c.requires.ending c.requires.named
    c.args.coming.now.from c.args.coming.now.intersection.rules.node c.requires.coming.arrives) in
    let names = c.in_ok-names.ensures c.args.coming.now.span.name.way before q it.steps c.requires.coming.states
    (context_pieces M P (before ++ q ∷ []) it.context) it.turn it.at in
    let all : c.from_list.result ≡ map name_of (before ++ q ∷ []) =
    c.from_list.ensures ∙ (c.in_ok-push.ensures.items ∙ (ap (λ l. l ++ c.args.coming.now.span.name ∷ []) names
    ∙ sym (map-append name_of before (q ∷ [])))) in
    c.in_ok-add_arc.ensures (before ++ q ∷ []) p reached all is named
