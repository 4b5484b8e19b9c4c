use Rattle.std.proofs.Common.{ℕ, List, length, ◌≡◌, ◌≤◌, ◌+◌, ◌++◌, ◌∷◌, subst, ap, ◌∙◌}
use Rattle.opl_lexer.specs.Letters.{newline}
use Rattle.access_profile.specs.Profiles.{rules_of}
use Rattle.road_base.specs.declared.event.Event.{Event}
use Rattle.road_base.specs.declared.ids.WayId.{WayId}
use Rattle.compiled_graph.specs.Building.{HasBlocksAmong}
use Rattle.cell_check.specs.declared.checking.Failing.{Failing}
use Rattle.cell_plan.specs.CellPlans.{places_in}
use Rattle.cells.specs.Commands.{number_of}
use Rattle.cells.specs.Made.{places_of}
use Rattle.cells.specs.Texts.{report_lines}
use Rattle.cells.proofs.PartBlocks.{CellLaw, if_ok, is_report, nothing_built, part_built}
use Rattle.cells.proofs.made.report.Goals as goal

pub returns-clause-made : goal.returns-clause-made
returns-clause-made g c =
    let world = c.in_ok-world.world in
    let passing = c.in_ok-checked.checked.passing.items in
    let failing = c.in_ok-checked.checked.failing.items in
    let graph = c.in_ok-graph.field-0.items in
    let nodes = c.nodes_in-nodes.result in
    let number = c.profile_of-profile.ensures ∙ c.number.ensures in
    let law : CellLaw (rules_of (number_of c.args.number)) =
    subst (λ (n : ℕ). CellLaw (rules_of n)) number c.cell.ensures.block in
    let has : HasBlocksAmong world (rules_of (number_of c.args.number)) passing graph =
    subst (λ (n : ℕ). HasBlocksAmong world (rules_of n) passing graph) number
    (subst (λ (l : List WayId). HasBlocksAmong world (rules_of c.profile_of-profile.result.number) l graph)
    c.deref-4.ensures.value c.in_ok-graph.ensures.part) in
    let counted : nodes ≡ places_in c.args.cut_cell.cell (places_of c.args.events.items) =
    c.nodes_in-nodes.ensures
    ∙ ap (λ (l : List Event). places_in c.args.cut_cell.cell (places_of l)) c.deref.ensures.value in
    let spelled : c.in_ok-lines.lines.items ≡ report_lines nodes passing failing = c.in_ok-lines.ensures
    ∙ (ap (λ (l : List WayId). report_lines nodes l c.deref-3.result.now) c.deref-2.ensures.value
    ∙ ap (λ (l : List Failing). report_lines nodes passing l) c.deref-3.ensures.value) in
    if_ok c.with_lines.result _ _
    (λ out is. is_report (rules_of (number_of c.args.number)) c.args.events.items world c.in_ok-world.ensures passing
    law
    c.args.cut_cell c.in_ok-checked.ensures.passing failing c.in_ok-checked.ensures.failing graph has out.items
    (is ∙ ap (λ (l : List ℕ). graph ++ newline ∷ l)
    (c.deref-5.ensures.value ∙ (spelled ∙ ap (λ (n : ℕ). report_lines n passing failing) counted))))
    c.with_lines.ensures

-- ---- how many are built

pub returns-in_err-world-clause-built : goal.returns-in_err-world-clause-built
returns-in_err-world-clause-built g c = nothing_built c.args.cut_cell c.args.events.items c.args.steps.now

pub returns-in_err-checked-clause-built : goal.returns-in_err-checked-clause-built
returns-in_err-checked-clause-built g c = nothing_built c.args.cut_cell c.args.events.items c.args.steps.now

pub returns-in_err-lines-clause-built : goal.returns-in_err-lines-clause-built
returns-in_err-lines-clause-built g c = nothing_built c.args.cut_cell c.args.events.items c.args.steps.now

pub returns-in_err-graph-clause-built : goal.returns-in_err-graph-clause-built
returns-in_err-graph-clause-built g c =
    part_built c.one_map.ensures c.name_order.ensures.ways c.args.cut_cell c.args.events.items
    c.in_ok-world.world c.in_ok-world.ensures c.in_ok-checked.checked.passing.items
    c.in_ok-checked.ensures.passing c.args.steps.now c.part_of-graph.new.steps
    (subst (λ (l : List WayId). c.part_of-graph.new.steps ≤ c.args.steps.now + length l) c.deref-4.ensures.value
    c.part_of-graph.ensures.built)

pub returns-clause-built : goal.returns-clause-built
returns-clause-built g c =
    part_built c.one_map.ensures c.name_order.ensures.ways c.args.cut_cell c.args.events.items
    c.in_ok-world.world c.in_ok-world.ensures c.in_ok-checked.checked.passing.items
    c.in_ok-checked.ensures.passing c.args.steps.now c.part_of-graph.new.steps
    (subst (λ (l : List WayId). c.part_of-graph.new.steps ≤ c.args.steps.now + length l) c.deref-4.ensures.value
    c.part_of-graph.ensures.built)
