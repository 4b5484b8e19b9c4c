use Rattle.std.proofs.Common.{◌≡◌, inr, subst, sym}
use Rattle.ordered_lists.proofs.ListPlaces.{one_stands}
use Rattle.graph_blocks.specs.Lent.{map_of as block_map}
use Rattle.context_search.specs.Listed.{contexts_in}
use Rattle.least_cost.specs.declared.visiting.CostVisit.{CostVisit}
use Rattle.least_cost.specs.CostVisits.{IsClosed, cost_in}
use Rattle.least_cost.proofs.searching.pass.Goals as goal

pub returns-clause-done : goal.returns-clause-done
returns-clause-done c v at =
    let L = contexts_in (block_map c.args.blocks.now) in
    let visit = c.at-visit.result in
    let n = c.go_on.new.search in
    let same : visit ≡ v = one_stands c.args.search.now.visits c.args.place visit v c.at-visit.ensures at in
    let still = c.in_ok-go_on.ensures.grows.visits.stays c.args.place visit c.at-visit.ensures in
    let closed : IsClosed L c.args.goals.now (cost_in c.in_ok-found.found) n.visits visit = record {
      followed = c.in_ok-go_on.ensures.followed;
      met = (c.in_ok-found.ensures n.visits still).met;
    } in
    inr (subst (λ (w : CostVisit). IsClosed L c.args.goals.now (cost_in c.in_ok-found.found) n.visits w) same closed)
