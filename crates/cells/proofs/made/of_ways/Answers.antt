use Rattle.std.proofs.Common.{◌≤◌, ◌+◌, ℕ, List, length, subst, ◌∙◌}
use Rattle.road_base.specs.declared.ids.WayId.{WayId}
use Rattle.access_profile.specs.Profiles.{rules_of}
use Rattle.compiled_graph.specs.Building.{HasBlocksAmong}
use Rattle.cells.specs.Commands.{number_of}
use Rattle.cells.proofs.PartBlocks.{CutLaw, if_ok, is_of_ways}
use Rattle.cells.proofs.made.of_ways.Goals as goal

pub returns-clause-made : goal.returns-clause-made
returns-clause-made g c =
    let world = c.in_ok-world.world in
    let ways = c.args.ways.now in
    let number = c.profile_of-profile.ensures ∙ c.number.ensures in
    let law : CutLaw (rules_of (number_of c.args.number)) =
    subst (λ (n : ℕ). CutLaw (rules_of n)) number c.cut.ensures in
    if_ok c.part_of-graph.result _ _
    (λ out has. is_of_ways (rules_of (number_of c.args.number)) c.args.events.items world c.in_ok-world.ensures ways law
    out.items
    (subst (λ (n : ℕ). HasBlocksAmong world (rules_of n) ways out.items) number
    (subst (λ (l : List WayId). HasBlocksAmong world (rules_of c.profile_of-profile.result.number) l out.items)
    c.items.ensures.items has)))
    c.part_of-graph.ensures.part

pub returns-clause-built : goal.returns-clause-built
returns-clause-built g c =
    subst (λ (l : List WayId). c.part_of-graph.new.steps ≤ c.args.steps.now + length l) c.items.ensures.items
    c.part_of-graph.ensures.built
