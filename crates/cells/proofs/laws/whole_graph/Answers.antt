use Rattle.std.proofs.Common.{◌↔◌, ℕ, sym, subst, ◌∙◌}
use Rattle.road_model.specs.declared.blocks.Block.{Block}
use Rattle.road_model.specs.Blocks.{IsRoadBlock}
use Rattle.access_profile.specs.Profiles.{rules_of}
use Rattle.cells.specs.Commands.{number_of}
use Rattle.cells.proofs.WholeGraphs.{MergedGraph, MergedWalks, whole_merge, whole_of, with_roads}
use Rattle.cells.proofs.laws.whole_graph.Goals as goal

pub returns-clause-graph : goal.returns-clause-graph
returns-clause-graph c M cells cuts graphs out compiled all together =
    let number = c.profile_of-profile.ensures ∙ c.number.ensures in
    let whole = whole_merge M c.args.number cells cuts compiled graphs all c.one_reading.ensures c.one_map.ensures
    (λ zs b are road. c.owners.ensures M zs b are
    (subst (λ (k : ℕ). IsRoadBlock M (rules_of k) b) (sym number) road)) c.one_front.ensures
    (c.merged_in_ranges.ensures graphs) out together in
    whole_of (rules_of (number_of c.args.number))
    (subst (λ (k : ℕ). MergedGraph (rules_of k)) number c.merged_graph.ensures.graph)
    (subst (λ (k : ℕ). MergedWalks (rules_of k)) number c.merged_graph.ensures.walks) out M whole

pub returns-clause-roads : goal.returns-clause-roads
returns-clause-roads c M R cells cuts graphs out roads compiled all together =
    let number = c.profile_of-profile.ensures ∙ c.number.ensures in
    let whole = whole_merge R c.args.number cells cuts compiled graphs all c.one_reading.ensures c.one_map.ensures
    (λ zs b are road. c.owners.ensures R zs b are
    (subst (λ (k : ℕ). IsRoadBlock R (rules_of k) b) (sym number) road)) c.one_front.ensures
    (c.merged_in_ranges.ensures graphs) out together in
    let same = subst (λ (k : ℕ). (b : Block) → IsRoadBlock M (rules_of k) b ↔ IsRoadBlock R (rules_of k) b) number
    (λ b. c.roads.ensures.blocks M R b roads) in
    whole_of (rules_of (number_of c.args.number))
    (subst (λ (k : ℕ). MergedGraph (rules_of k)) number c.merged_graph.ensures.graph)
    (subst (λ (k : ℕ). MergedWalks (rules_of k)) number c.merged_graph.ensures.walks) out M
    (with_roads M R (rules_of (number_of c.args.number)) out same whole)
