use Rattle.std.proofs.Common.{List, Contains, sym, subst}
use Rattle.road_base.specs.declared.ids.Step.{Step}
use Rattle.context_search.specs.declared.ends.Begin.{Begin}
use Rattle.context_search.specs.PhaseWalks.{LeadsIn}
use Rattle.context_search.proofs.SearchTogether.{entry_ascends, ends_within, led_within}
use Rattle.context_search.proofs.reaching.drive_between.Goals as goal

pub within-requires-clause-ascends : goal.within-requires-clause-ascends
within-requires-clause-ascends g c =
    let M = g.M.World.objects c.args.network.now.world.now in
    let P = g.P.Profile.rules c.args.network.now.profile in
    let s = c.in-Some.start in
    let has = subst (λ (l : List Begin). Contains l s) c.deref.ensures.value c.in-Some.ensures.has in
    let from = c.requires.ends.starts.sound s has in
    entry_ascends M P from.way s.piece.now from.listed

pub within-requires-clause-last : goal.within-requires-clause-last
within-requires-clause-last g c =
    let M = g.M.World.objects c.args.network.now.world.now in
    let P = g.P.Profile.rules c.args.network.now.profile in
    let s = c.in-Some.start in
    let h = c.in-Some.goal in
    let has = subst (λ (l : List Begin). Contains l s) c.deref.ensures.value c.in-Some.ensures.has in
    let from = c.requires.ends.starts.sound s has in
    let to = c.requires.ends.goals.sound s.piece.now.name h c.in-Some.ensures.meets in
    ends_within M P (c.one_name.ensures.pieces M) c.args.ends.now.a c.args.ends.now.b s h from to

pub returns-in-Some : goal.returns-in-Some
returns-in-Some g c =
    let M = g.M.World.objects c.args.network.now.world.now in
    let P = g.P.Profile.rules c.args.network.now.profile in
    let s = c.in-Some.start in
    let h = c.in-Some.goal in
    let has = subst (λ (l : List Begin). Contains l s) c.deref.ensures.value c.in-Some.ensures.has in
    let from = c.requires.ends.starts.sound s has in
    let to = c.requires.ends.goals.sound s.piece.now.name h c.in-Some.ensures.meets in
    let F = g.F.Phases.rules c.args.phases.now in
    let leads = led_within M P (c.one_name.ensures.pieces M) c.args.ends.now.a c.args.ends.now.b s h from to F
    c.in-Some.ensures.rises in
    subst (λ (d : List Step). LeadsIn M P F c.args.ends.now.a c.args.ends.now.b d) (sym c.in_ok-within.ensures) leads
