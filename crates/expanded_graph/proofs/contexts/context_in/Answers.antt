-- The names are those of the context that ends in the state, and the arcs leave it.
use Rattle.std.proofs.Common.{[], ◌∷◌, ◌++◌, sym, ◌∙◌, subst}
use Rattle.std.proofs.lemmas.Option.{slice_get_within}
use Rattle.road_model.specs.declared.lists.TurnArc.{TurnArc}
use Rattle.ordered_lists.specs.Orders.{Lists}
use Rattle.road_model.specs.Orders.{name_cmp}
use Rattle.road_model.specs.Blocks.{IsArcEntry}
use Rattle.way_pieces.specs.Names.{piece_of}
use Rattle.road_model.proofs.WalkLists.{context_pieces}
use Rattle.expanded_graph.proofs.ContextStates.{StepLaws, context_there, reached_there, context_in}
use Rattle.expanded_graph.proofs.contexts.context_in.Goals as goal

pub arcs_at-requires-clause-state : goal.arcs_at-requires-clause-state
arcs_at-requires-clause-state g c =
    slice_get_within c.args.coming.now.states.now.automaton.states c.args.state.0 _ c.requires.ending.at

pub returns : goal.returns
returns g c =
    let M = g.M.World.objects c.args.coming.now.network.now.world.now in
    let P = g.P.Profile.rules c.args.coming.now.network.now.profile in
    let m = c.args.coming.now.states.now.automaton in
    let facts = c.args.coming.now.states.now.facts.items in
    let p = piece_of c.args.coming.now.span in
    let laws : StepLaws M P =
    record {
      one = c.one_name.ensures.pieces M;
      to = c.context_steps.ensures.to M;
      from = c.context_steps.ensures.from M;
    } in
    let there = context_there M P laws m facts c.closed.ensures.closed c.closed.ensures.lists p c.requires.coming.piece
    c.requires.coming.states c.args.state.0 c.requires.ending c.requires.named in
    let reached =
    reached_there M P laws m facts c.closed.ensures.closed c.closed.ensures.lists p c.requires.coming.piece
    c.requires.coming.states c.args.state.0 c.requires.ending c.requires.named c.args.coming.now.from
    c.args.coming.now.intersection.rules.node
    c.requires.coming.arrives in
    let names = c.in_ok-names.ensures c.args.coming.now.span.name.way there.0 p _ c.requires.coming.states
    (context_pieces M P (there.0 ++ p ∷ []) there.3) there.2 c.requires.ending.at in
    let arcs = subst (λ l. Lists (λ (a : TurnArc). a.piece) name_cmp (IsArcEntry M P (there.0 ++ p ∷ [])) l)
    (sym c.from_list-2.ensures) (c.in_ok-arcs.ensures (there.0 ++ p ∷ []) reached) in
    context_in M P laws m facts c.closed.ensures.closed c.closed.ensures.lists p c.requires.coming.piece
    c.requires.coming.states
    c.args.state.0 c.requires.ending c.requires.named _ (c.from_list.ensures ∙ names) arcs
    (c.from_list-3.ensures ∙ c.new.ensures.items)
