use Rattle.std.proofs.Common.{IfOk, subst, sym}
use Rattle.std.proofs.lemmas.Option.{slice_get_within}
use Rattle.context_search.proofs.SearchTogether.{entry_ascends, ends_within}
use Rattle.least_cost.specs.declared.candidates.FoundEnd.{FoundEnd}
use Rattle.least_cost.specs.CostVisits.{HasEnd, EndsWithin, EndsOver}
use Rattle.least_cost.specs.Trails.{IsDriveOf}
use Rattle.least_cost.proofs.least_drives.drive_of.Goals as goal

pub within-requires-clause-ascends : goal.within-requires-clause-ascends
within-requires-clause-ascends g c =
    let M = g.M.World.objects c.args.network.now.world.now in
    let P = g.P.Profile.rules c.args.network.now.profile in
    let E = c.args.ends.now in
    let s = c.in-Within.start in
    let h : EndsWithin E.starts.items E.goals s c.in-Within.goal c.args.found.now.cost
    = subst (λ (e : FoundEnd). HasEnd E.starts.items E.goals c.args.visits.now c.args.found.now.cost e) c.in-Within.is
    c.requires.found in
    let from = c.requires.ends.starts.sound s h.is in
    entry_ascends M P from.way s.piece.now from.listed

pub within-requires-clause-rises : goal.within-requires-clause-rises
within-requires-clause-rises g c =
    let E = c.args.ends.now in
    let h : EndsWithin E.starts.items E.goals c.in-Within.start c.in-Within.goal c.args.found.now.cost
    = subst (λ (e : FoundEnd). HasEnd E.starts.items E.goals c.args.visits.now c.args.found.now.cost e) c.in-Within.is
    c.requires.found in
    h.rises

pub within-requires-clause-last : goal.within-requires-clause-last
within-requires-clause-last g c =
    let M = g.M.World.objects c.args.network.now.world.now in
    let P = g.P.Profile.rules c.args.network.now.profile in
    let E = c.args.ends.now in
    let s = c.in-Within.start in
    let h : EndsWithin E.starts.items E.goals s c.in-Within.goal c.args.found.now.cost
    = subst (λ (e : FoundEnd). HasEnd E.starts.items E.goals c.args.visits.now c.args.found.now.cost e) c.in-Within.is
    c.requires.found in
    let from = c.requires.ends.starts.sound s h.is in
    let to = c.requires.ends.goals.sound s.piece.now.name c.in-Within.goal h.met in
    ends_within M P (c.one_name.ensures.pieces M) E.a E.b s c.in-Within.goal from to

pub returns-in-Within : goal.returns-in-Within
returns-in-Within g c =
    subst (λ (e : FoundEnd). IfOk c.within.result (λ d. IsDriveOf c.args.visits.now e d)) (sym c.in-Within.is)
    c.within.ensures

pub along-requires-clause-place : goal.along-requires-clause-place
along-requires-clause-place g c =
    let E = c.args.ends.now in
    let V = c.args.visits.now in
    let h : EndsOver E.goals V c.in-Over.place c.in-Over.goal c.args.found.now.cost
    = subst (λ (e : FoundEnd). HasEnd E.starts.items E.goals V c.args.found.now.cost e) c.in-Over.is c.requires.found in
    slice_get_within V c.in-Over.place h.visit h.at

pub along-requires-clause-ascends : goal.along-requires-clause-ascends
along-requires-clause-ascends g c =
    let M = g.M.World.objects c.args.network.now.world.now in
    let P = g.P.Profile.rules c.args.network.now.profile in
    let E = c.args.ends.now in
    let V = c.args.visits.now in
    let h : EndsOver E.goals V c.in-Over.place c.in-Over.goal c.args.found.now.cost
    = subst (λ (e : FoundEnd). HasEnd E.starts.items E.goals V c.args.found.now.cost e) c.in-Over.is c.requires.found in
    let to = c.requires.ends.goals.sound h.arc.piece c.in-Over.goal h.met in
    entry_ascends M P to.way c.in-Over.goal.piece.now to.listed

pub returns-in-Over : goal.returns-in-Over
returns-in-Over g c =
    subst (λ (e : FoundEnd). IfOk c.along.result (λ d. IsDriveOf c.args.visits.now e d)) (sym c.in-Over.is)
    c.along.ensures
