use Rattle.std.proofs.Common.{ℕ, Option}
use Rattle.std.proofs.Common.{List, Some, subst, sym}
use Rattle.graph_blocks.specs.Lent.{map_of as block_map}
use Rattle.least_cost.specs.declared.visiting.CostVisit.{CostVisit}
use Rattle.context_search.specs.Listed.{contexts_in}
use Rattle.least_cost.specs.CostVisits.{IsFoundBy, HasEnd, cost_in}
use Rattle.least_cost.specs.Certified.{Certified, IsLeastFor}
use Rattle.road_model.specs.Pieces.{Span}
use Rattle.least_cost.specs.Trails.{Descend, Ascend, IsDriveOf}
use Rattle.least_cost.proofs.LeastFound.{descends, ascends, route_of, nowhere_of}
use Rattle.least_cost.proofs.least_drives.shortest_between.Goals as goal

pub drive_of-requires-clause-descend : goal.drive_of-requires-clause-descend
drive_of-requires-clause-descend g c = subst (λ (l : List CostVisit). Descend l) (sym c.visits.ensures)
    (descends c.args.ends.now.starts.items c.in_ok-search.search.visits c.in_ok-search.ensures.origins)

pub drive_of-requires-clause-ascend : goal.drive_of-requires-clause-ascend
drive_of-requires-clause-ascend g c =
    let M = g.M.World.objects c.args.network.now.world.now in
    let P = g.P.Profile.rules c.args.network.now.profile in
    let m = block_map c.args.blocks.now in
    subst (λ (l : List CostVisit). Ascend l) (sym c.visits.ensures)
    (ascends M P (contexts_in m) c.in_ok-search.search.visits (c.listed_contexts.ensures.spots M m c.requires.blocks)
    c.in_ok-search.ensures.listed)

pub drive_of-requires-clause-found : goal.drive_of-requires-clause-found
drive_of-requires-clause-found g c =
    let E = c.args.ends.now in
    subst (λ (l : List CostVisit). IsFoundBy E.starts.items E.goals l (Some c.in-Some.found)) (sym c.visits.ensures)
    (subst (λ b. IsFoundBy E.starts.items E.goals c.in_ok-search.search.visits b) c.in-Some.is
    c.in_ok-search.ensures.found)

pub returns-in_default : goal.returns-in_default
returns-in_default g c =
    let M = g.M.World.objects c.args.network.now.world.now in
    let P = g.P.Profile.rules c.args.network.now.profile in
    let m = block_map c.args.blocks.now in
    let E = c.args.ends.now in
    let law : (pi : List Span → Option ℕ) → Certified M P E.a E.b (cost_in c.in_ok-search.best) pi
    → IsLeastFor M P E.a E.b (cost_in c.in_ok-search.best)
    = subst (λ (C : Option ℕ). (pi : List Span → Option ℕ) → Certified M P E.a E.b C pi → IsLeastFor M P E.a E.b C)
    c.cost_in.ensures (c.certified_is_least.ensures M) in
    nowhere_of M P (contexts_in m) (c.listed_contexts.ensures.spots M m c.requires.blocks) (c.one_name.ensures.pieces M)
    E c.requires.ends c.args.to c.requires.at c.in_ok-search.search.visits c.in_ok-search.best c.in_ok-search.ensures
    (c.searched_drives.ensures.within M E.a E.b)
    (c.searched_drives.ensures.along M E.a E.b) law c.in_default.is

pub returns : goal.returns
returns g c =
    let M = g.M.World.objects c.args.network.now.world.now in
    let P = g.P.Profile.rules c.args.network.now.profile in
    let m = block_map c.args.blocks.now in
    let E = c.args.ends.now in
    let law : (pi : List Span → Option ℕ) → Certified M P E.a E.b (cost_in c.in_ok-search.best) pi
    → IsLeastFor M P E.a E.b (cost_in c.in_ok-search.best)
    = subst (λ (C : Option ℕ). (pi : List Span → Option ℕ) → Certified M P E.a E.b C pi → IsLeastFor M P E.a E.b C)
    c.cost_in.ensures (c.certified_is_least.ensures M) in
    let d = c.in_ok-drive.drive in
    let drive : IsDriveOf c.in_ok-search.search.visits c.in-Some.found.end d
    = subst (λ (l : List CostVisit). IsDriveOf l c.in-Some.found.end d) c.visits.ensures c.in_ok-drive.ensures in
    route_of M P (contexts_in m) (c.listed_contexts.ensures.spots M m c.requires.blocks) (c.one_name.ensures.pieces M)
    E c.requires.ends c.args.to c.requires.at c.in_ok-search.search.visits c.in_ok-search.best c.in_ok-search.ensures
    (c.searched_drives.ensures.within M E.a E.b)
    (c.searched_drives.ensures.along M E.a E.b) law c.in-Some.found c.in-Some.is d drive
