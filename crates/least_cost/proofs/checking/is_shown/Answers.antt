use Rattle.std.proofs.Common.{List, Option, IfOk, IsTrue, sym, ap, subst}
use Rattle.std.specs.Prelude.{◌↔◌}
use Rattle.std.specs.Option.{option_copied}
use Rattle.road_base.specs.declared.ids.Step.{Step}
use Rattle.least_cost.specs.Certified.{IsCertificate}
use Rattle.least_cost.proofs.checking.is_shown.Goals as goal

pub returns-in-Some : goal.returns-in-Some
returns-in-Some g c =
    let M = g.M.World.objects c.args.network.now.world.now in
    let P = g.P.Profile.rules c.args.network.now.profile in
    subst (λ (d : Option (List Step)). IfOk c.shows_route.result
    (λ yes. IsTrue yes ↔ IsCertificate M P c.args.a c.args.b d c.args.numbers.now))
    (sym (ap option_copied c.in-Some.is)) c.shows_route.ensures

pub returns-in-None : goal.returns-in-None
returns-in-None g c =
    let M = g.M.World.objects c.args.network.now.world.now in
    let P = g.P.Profile.rules c.args.network.now.profile in
    subst (λ (d : Option (List Step)). IfOk c.shows.result
    (λ yes. IsTrue yes ↔ IsCertificate M P c.args.a c.args.b d c.args.numbers.now))
    (sym (ap option_copied c.in-None.is)) c.shows.ensures
