-- The piece lies on the line, and what is written of it is as it is to be.
use Rattle.std.proofs.Common.{true, ◌≡◌, ◌≤◌, List, length, filter_map, refl, sym, ◌∙◌, subst}
use Rattle.std.specs.List.{AllByRecursion}
use Rattle.road_model.specs.declared.lists.Context.{Context}
use Rattle.ordered_lists.specs.Orders.{Lists}
use Rattle.road_model.specs.Orders.{names_cmp}
use Rattle.road_model.specs.Format.{IsContextForm, begins_alone}
use Rattle.way_pieces.specs.Names.{piece_of}
use Rattle.expanded_graph.specs.Contexts.{IsBareContext}
use Rattle.expanded_graph.specs.Travel.{place_of, nodes_on}
use Rattle.expanded_graph.proofs.BarePieces.{bare_forms}
use Rattle.expanded_graph.proofs.PiecePlaces.{within}
use Rattle.expanded_graph.proofs.WrittenPieces.{own_line, bare_entry, form, marked_in}
use Rattle.expanded_graph.proofs.pieces.bare_piece_at.Goals as goal

pub places_of-requires-clause-within : goal.places_of-requires-clause-within
places_of-requires-clause-within g c =
    let M = g.M.World.objects c.args.network.now.world.now in
    let P = g.P.Profile.rules c.args.network.now.profile in
    within M P c.args.span c.requires.span.is c.as_slice-nodes.result.now
    (own_line M P c.args.line.now.road.way c.as_slice-nodes.result.now c.args.span c.requires.span
    (c.as_slice-nodes.ensures.value ∙ c.requires.line))

pub end_of-end-requires-clause-within : goal.end_of-end-requires-clause-within
end_of-end-requires-clause-within g c =
    let M = g.M.World.objects c.args.network.now.world.now in
    let P = g.P.Profile.rules c.args.network.now.profile in
    within M P c.args.span c.requires.span.is c.as_slice-nodes.result.now
    (own_line M P c.args.line.now.road.way c.as_slice-nodes.result.now c.args.span c.requires.span
    (c.as_slice-nodes.ensures.value ∙ c.requires.line))

pub end_of-end-requires-clause-line : goal.end_of-end-requires-clause-line
end_of-end-requires-clause-line g c =
    own_line (g.M.World.objects c.args.network.now.world.now) (g.P.Profile.rules c.args.network.now.profile)
    c.args.line.now.road.way c.as_slice-nodes.result.now c.args.span c.requires.span
    (c.as_slice-nodes.ensures.value ∙ c.requires.line)

pub returns-clause-entry : goal.returns-clause-entry
returns-clause-entry g c =
    let M = g.M.World.objects c.args.network.now.world.now in
    let P = g.P.Profile.rules c.args.network.now.profile in
    let s = c.args.span in
    let nodes = c.as_slice-nodes.result.now in
    let placed : c.from_list.result ≡ filter_map place_of (nodes_on s nodes) =
    c.from_list.ensures ∙ c.in_ok-places.ensures in
    let listed =
    subst (λ (l : List Context). Lists (λ x. x.before) names_cmp (IsBareContext M P (piece_of s)) l)
    (sym c.from_list-2.ensures) c.in_ok-contexts.ensures.listed in
    let marked = c.toward.ensures ∙ marked_in M P c.args.line.now.road.way c.args.marks c.requires.marks s.name.dir in
    bare_entry M P c.args.line.now.road.way s c.requires.span nodes (c.as_slice-nodes.ensures.value ∙ c.requires.line) _
    refl refl placed marked listed

pub returns-clause-form : goal.returns-clause-form
returns-clause-form g c =
    let M = g.M.World.objects c.args.network.now.world.now in
    let P = g.P.Profile.rules c.args.network.now.profile in
    let s = c.args.span in
    let nodes = c.as_slice-nodes.result.now in
    let placed : c.from_list.result ≡ filter_map place_of (nodes_on s nodes) =
    c.from_list.ensures ∙ c.in_ok-places.ensures in
    let listed =
    subst (λ (l : List Context). Lists (λ x. x.before) names_cmp (IsBareContext M P (piece_of s)) l)
    (sym c.from_list-2.ensures) c.in_ok-contexts.ensures.listed in
    let first = subst begins_alone (sym c.from_list-2.ensures) c.in_ok-contexts.ensures.alone in
    let forms : AllByRecursion (IsContextForm true) c.from_list-2.result =
    bare_forms M P (piece_of s) (c.context_steps.ensures.short M) c.from_list-2.result listed in
    form M P c.args.line.now.road.way s c.requires.span nodes (c.as_slice-nodes.ensures.value ∙ c.requires.line) _
    refl refl placed (subst (λ l. length l ≤ 65535) (sym c.as_slice-nodes.ensures.value) c.requires.short)
    listed.ascending first forms
