use Rattle.std.proofs.Common.{ℕ, Option, sym, subst}
use Rattle.least_cost.specs.Certified.{IsCertified}
use Rattle.least_cost.proofs.checking.shows_route.Goals as goal

pub returns-then-not-legal : goal.returns-then-not-legal
returns-then-not-legal g c =
    (λ t. cc, λ x. let y = c.in_ok-legal.ensures.1 x.0 in let n = c.if-not-legal.true in cc)

pub returns : goal.returns
returns g c =
    let M = g.M.World.objects c.args.network.now.world.now in
    let P = g.P.Profile.rules c.args.network.now.profile in
    let same = c.drive_cost-cost.ensures in (
      λ t. (
        c.in_ok-legal.ensures.0 c.if-not-legal.false,
        subst (λ (v : Option ℕ). IsCertified M P c.args.a c.args.b v c.args.numbers.now) same
            (c.in_ok-shown.ensures.0 t),
      ),
      λ x. c.in_ok-shown.ensures.1
          (subst (λ (v : Option ℕ). IsCertified M P c.args.a c.args.b v c.args.numbers.now) (sym same) x.1),
    )
