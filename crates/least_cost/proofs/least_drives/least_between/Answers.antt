use Rattle.std.proofs.Common.{ℕ, Option}
use Rattle.std.proofs.Common.{◌≡◌, List, Some, IsTrue, Contains, map, subst, sym, ◌∙◌}
use Rattle.ordered_lists.specs.Orders.{rises}
use Rattle.ordered_lists.proofs.ListPlaces.{at_contains}
use Rattle.context_search.specs.declared.spots.Spot.{Spot}
use Rattle.context_search.specs.Marks.{at_of, key_of, key_cmp}
use Rattle.least_cost.specs.Lowered.{number_left}
use Rattle.least_cost.proofs.LawSpots.{one_spots}
use Rattle.graph_blocks.specs.Lent.{map_of as block_map}
use Rattle.least_cost.specs.declared.visiting.CostVisit.{CostVisit}
use Rattle.context_search.specs.Listed.{contexts_in}
use Rattle.least_cost.specs.CostVisits.{IsFoundBy, HasEnd, cost_in}
use Rattle.least_cost.specs.Certified.{Certified, IsCertified, IsLeastFor}
use Rattle.road_model.specs.Pieces.{Span}
use Rattle.least_cost.specs.Trails.{Descend, Ascend, IsDriveOf}
use Rattle.least_cost.proofs.LeastFound.{descends, ascends, route_of, nowhere_of, list_shows}
use Rattle.least_cost.proofs.least_drives.least_between.Goals as goal

pub drive_of-requires-clause-descend : goal.drive_of-requires-clause-descend
drive_of-requires-clause-descend g c = subst (λ (l : List CostVisit). Descend l) (sym c.visits-2.ensures)
    (descends c.args.ends.now.starts.items c.in_ok-search.search.visits c.in_ok-search.ensures.origins)

pub drive_of-requires-clause-ascend : goal.drive_of-requires-clause-ascend
drive_of-requires-clause-ascend g c =
    let M = g.M.World.objects c.args.network.now.world.now in
    let P = g.P.Profile.rules c.args.network.now.profile in
    let m = block_map c.args.blocks.now in
    subst (λ (l : List CostVisit). Ascend l) (sym c.visits-2.ensures)
    (ascends M P (contexts_in m) c.in_ok-search.search.visits (c.listed_contexts.ensures.spots M m c.requires.blocks)
    c.in_ok-search.ensures.listed)

pub drive_of-requires-clause-found : goal.drive_of-requires-clause-found
drive_of-requires-clause-found g c =
    let E = c.args.ends.now in
    subst (λ (l : List CostVisit). IsFoundBy E.starts.items E.goals l (Some c.in-Some.found)) (sym c.visits-2.ensures)
    (subst (λ b. IsFoundBy E.starts.items E.goals c.in_ok-search.search.visits b) c.in-Some.is
    c.in_ok-search.ensures.found)

pub numbers-requires-clause-up : goal.numbers-requires-clause-up
numbers-requires-clause-up g c = subst (λ (l : List Spot). IsTrue (rises key_cmp (map key_of (map at_of l))))
    (sym c.deref.ensures.value) c.in_ok-spots.ensures.up

pub numbers-requires-clause-listed : goal.numbers-requires-clause-listed
numbers-requires-clause-listed g c v has =
    let M = g.M.World.objects c.args.network.now.world.now in
    let P = g.P.Profile.rules c.args.network.now.profile in
    let m = block_map c.args.blocks.now in
    let visits = c.in_ok-search.search.visits in
    let at = at_contains visits v (subst (λ (l : List CostVisit). Contains l v) c.visits.ensures has) in
    let listed = c.in_ok-search.ensures.listed at.0 v at.1 in
    let same = one_spots M P (contexts_in m) (map at_of c.in_ok-spots.spots.items)
    (c.listed_contexts.ensures.spots M m c.requires.blocks) c.in_ok-spots.ensures in
    subst (λ (l : List Spot). Contains (map at_of l) (at_of v.spot)) (sym c.deref.ensures.value)
    (subst (λ l. Contains l (at_of v.spot)) same listed)

pub returns-in_default : goal.returns-in_default
returns-in_default g c =
    let M = g.M.World.objects c.args.network.now.world.now in
    let P = g.P.Profile.rules c.args.network.now.profile in
    let m = block_map c.args.blocks.now in
    let E = c.args.ends.now in
    let law : (pi : List Span → Option ℕ) → Certified M P E.a E.b (cost_in c.in_ok-search.best) pi
    → IsLeastFor M P E.a E.b (cost_in c.in_ok-search.best)
    = subst (λ (C : Option ℕ). (pi : List Span → Option ℕ) → Certified M P E.a E.b C pi → IsLeastFor M P E.a E.b C)
    c.cost_in.ensures (c.certified_is_least.ensures M) in
    let are = c.listed_contexts.ensures.spots M m c.requires.blocks in
    let one = c.one_name.ensures.pieces M in
    let ex = c.in_ok-search.ensures in
    let visits = c.in_ok-search.search.visits in
    let best = c.in_ok-search.best in
    let inside = c.searched_drives.ensures.within M E.a E.b in
    let across = c.searched_drives.ensures.along M E.a E.b in
    let list : c.from_list-potentials.result ≡ map (number_left visits (cost_in best) c.args.to)
    (map at_of c.in_ok-spots.spots.items)
    = c.from_list-potentials.ensures ∙ c.in_ok-list.ensures ∙ (λ i. map (number_left (c.visits.ensures i)
    (c.cost_in-2.ensures i) c.args.to) (map at_of (c.deref.ensures.value i))) in
    let shows = list_shows M P (contexts_in m) are one E c.requires.ends c.args.to c.requires.at visits best ex inside
    across law (map at_of c.in_ok-spots.spots.items) c.in_ok-spots.ensures
    c.from_list-potentials.result list in (
      nowhere_of M P (contexts_in m) are one E c.requires.ends c.args.to c.requires.at visits best ex inside across
          law c.in_default.is,
      subst (λ b. IsCertified M P E.a E.b (cost_in b) c.from_list-potentials.result) c.in_default.is shows,
    )

pub returns : goal.returns
returns g c =
    let M = g.M.World.objects c.args.network.now.world.now in
    let P = g.P.Profile.rules c.args.network.now.profile in
    let m = block_map c.args.blocks.now in
    let E = c.args.ends.now in
    let law : (pi : List Span → Option ℕ) → Certified M P E.a E.b (cost_in c.in_ok-search.best) pi
    → IsLeastFor M P E.a E.b (cost_in c.in_ok-search.best)
    = subst (λ (C : Option ℕ). (pi : List Span → Option ℕ) → Certified M P E.a E.b C pi → IsLeastFor M P E.a E.b C)
    c.cost_in.ensures (c.certified_is_least.ensures M) in
    let are = c.listed_contexts.ensures.spots M m c.requires.blocks in
    let one = c.one_name.ensures.pieces M in
    let ex = c.in_ok-search.ensures in
    let visits = c.in_ok-search.search.visits in
    let best = c.in_ok-search.best in
    let inside = c.searched_drives.ensures.within M E.a E.b in
    let across = c.searched_drives.ensures.along M E.a E.b in
    let list : c.from_list-potentials.result ≡ map (number_left visits (cost_in best) c.args.to)
    (map at_of c.in_ok-spots.spots.items)
    = c.from_list-potentials.ensures ∙ c.in_ok-list.ensures ∙ (λ i. map (number_left (c.visits.ensures i)
    (c.cost_in-2.ensures i) c.args.to) (map at_of (c.deref.ensures.value i))) in
    let shows = list_shows M P (contexts_in m) are one E c.requires.ends c.args.to c.requires.at visits best ex inside
    across law (map at_of c.in_ok-spots.spots.items) c.in_ok-spots.ensures
    c.from_list-potentials.result list in
    let d = c.in_ok-drive.drive in
    let drive : IsDriveOf visits c.in-Some.found.end d
    = subst (λ (l : List CostVisit). IsDriveOf l c.in-Some.found.end d) c.visits-2.ensures c.in_ok-drive.ensures in (
      route_of M P (contexts_in m) are one E c.requires.ends c.args.to c.requires.at visits best ex inside across
          law c.in-Some.found c.in-Some.is d drive,
      subst (λ b. IsCertified M P E.a E.b (cost_in b) c.from_list-potentials.result) c.in-Some.is shows,
    )
