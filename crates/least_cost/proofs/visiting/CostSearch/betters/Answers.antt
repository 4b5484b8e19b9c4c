use Rattle.std.proofs.Common.{◌<◌, ap, rules}
use Rattle.std.proofs.lemmas.Option.{slice_get_within}
use Rattle.least_cost.proofs.CostNames.{betters_is}
use Rattle.least_cost.proofs.visiting.CostSearch.betters.Goals as goal

pub at-requires : goal.at-requires
at-requires c =
    let s = c.in-Some.ensures in
    slice_get_within c.args.self.now.visits c.in-Some.known s.visit s.at

pub returns-in-Some : goal.returns-in-Some
returns-in-Some c less =
    let visit = c.args.visit.now in
    let below : c.at.result.cost < visit.cost = search rules in
    betters_is c.args.self.now.visits visit c.at.result _ c.in-Some.known c.in-Some.ensures
    (ap (λ l. (visit.spot.piece.now.name, l)) c.items-before.ensures) c.at.ensures below
