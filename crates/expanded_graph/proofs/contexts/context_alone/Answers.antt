-- The piece alone is left in the state after its last step.
use Rattle.std.proofs.Common.{◌∷◌, [], sym, ◌∙◌, subst}
use Rattle.road_model.specs.declared.lists.TurnArc.{TurnArc}
use Rattle.ordered_lists.specs.Orders.{Lists}
use Rattle.road_model.specs.Orders.{name_cmp}
use Rattle.road_model.specs.Blocks.{IsArcEntry}
use Rattle.way_pieces.specs.Names.{piece_of}
use Rattle.expanded_graph.proofs.ContextStates.{reached_alone, entry_alone}
use Rattle.expanded_graph.proofs.contexts.context_alone.Goals as goal

pub returns-clause-entry : goal.returns-clause-entry
returns-clause-entry g c =
    let M = g.M.World.objects c.args.coming.now.network.now.world.now in
    let P = g.P.Profile.rules c.args.coming.now.network.now.profile in
    let m = c.args.coming.now.states.now.automaton in
    let facts = c.args.coming.now.states.now.facts.items in
    let p = piece_of c.args.coming.now.span in
    let n = c.start-state.result.0 in
    let last = c.last_step.ensures in
    let reached =
    reached_alone M P (c.drive_grows.ensures.alone M) m facts p c.requires.piece c.requires.states last.0
    c.last_step.result last.1 n c.start-state.ensures.state c.args.coming.now.from
    c.args.coming.now.intersection.rules.node c.requires.arrives in
    let arcs = subst (λ l. Lists (λ (a : TurnArc). a.piece) name_cmp (IsArcEntry M P (p ∷ [])) l)
    (sym c.from_list-2.ensures) (c.in_ok-arcs.ensures (p ∷ []) reached) in
    entry_alone M P (c.drive_grows.ensures.alone M) m facts p c.requires.piece c.requires.states last.0
    c.last_step.result last.1 n c.start-state.ensures.state _ (c.from_list.ensures ∙ c.new.ensures.items) arcs
    (c.from_list-3.ensures ∙ c.new-2.ensures.items)
