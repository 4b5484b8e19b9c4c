use Rattle.std.proofs.Common.{ℕ, subst, List}
use Rattle.access_profile.specs.Profiles.{rules_of}
use Rattle.road_base.specs.declared.ids.WayId.{WayId}
use Rattle.compiled_graph.specs.Building.{HasBlocksAmong}
use Rattle.cells.specs.Commands.{number_of}
use Rattle.cells.proofs.PartBlocks.{CellLaw, if_ok, is_part, nothing_built, part_built}
use Rattle.std.proofs.Common.{length, ◌≤◌, ◌+◌, ◌∙◌}
use Rattle.cells.proofs.made.part.Goals as goal

pub returns-clause-made : goal.returns-clause-made
returns-clause-made g c =
    let world = c.in_ok-world.world in
    let passing = c.in_ok-checked.checked.passing.items in
    let is = c.number.ensures in
    let law : CellLaw (rules_of (number_of c.args.number)) =
    subst (λ (n : ℕ). CellLaw (rules_of n)) (c.profile_of-profile.ensures ∙ is) c.cell.ensures.block in
    if_ok c.part_of-graph.result _ _
    (λ out has. is_part (rules_of (number_of c.args.number)) c.args.events.items world c.in_ok-world.ensures passing law
    c.args.cut_cell c.in_ok-checked.ensures.passing out.items
    (subst (λ (n : ℕ). HasBlocksAmong world (rules_of n) passing out.items) (c.profile_of-profile.ensures ∙ is)
    (subst (λ (l : List WayId). HasBlocksAmong world (rules_of c.profile_of-profile.result.number) l out.items)
    c.deref.ensures.value has)))
    c.part_of-graph.ensures.part

pub returns-in_err-world-clause-built : goal.returns-in_err-world-clause-built
returns-in_err-world-clause-built g c = nothing_built c.args.cut_cell c.args.events.items c.args.steps.now

pub returns-in_err-checked-clause-built : goal.returns-in_err-checked-clause-built
returns-in_err-checked-clause-built g c = nothing_built c.args.cut_cell c.args.events.items c.args.steps.now

pub returns-clause-built : goal.returns-clause-built
returns-clause-built g c =
    part_built c.one_map.ensures c.name_order.ensures.ways c.args.cut_cell c.args.events.items
    c.in_ok-world.world c.in_ok-world.ensures c.in_ok-checked.checked.passing.items
    c.in_ok-checked.ensures.passing c.args.steps.now c.part_of-graph.new.steps
    (subst (λ (l : List WayId). c.part_of-graph.new.steps ≤ c.args.steps.now + length l) c.deref.ensures.value
    c.part_of-graph.ensures.built)
