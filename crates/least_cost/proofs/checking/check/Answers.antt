use Rattle.std.proofs.Common.{ℕ, List, Option, IfOk, IsTrue, sym, ap, subst}
use Rattle.std.specs.Prelude.{◌↔◌}
use Rattle.std.specs.Option.{option_copied}
use Rattle.std.specs.FinMap.{FinMap}
use Rattle.road_base.specs.Objects.{Objects}
use Rattle.road_model.specs.declared.blocks.Block.{Block}
use Rattle.road_model.specs.Rules.{Rules}
use Rattle.road_model.specs.Orders.{way_cmp}
use Rattle.road_model.specs.BlockMap.{AreBlocksOf}
use Rattle.least_cost.specs.Certified.{IsCertificate}
use Rattle.least_cost.proofs.checking.check.Goals as goal

pub is_shown-requires : goal.is_shown-requires
is_shown-requires g c =
    let world = ap g.M.World.objects c.new.ensures.world in
    let profile = ap g.P.Profile.rules c.new.ensures.profile in
    let M = g.M.World.objects c.new.result.world.now in
    let P = g.P.Profile.rules c.new.result.profile in
    let blocks = g.B.LendsBlocks.map c.args.blocks.now in
    subst (λ (m : FinMap way_cmp Block). AreBlocksOf M P m) (sym c.lend.ensures)
    (subst (λ (N : Objects). AreBlocksOf N P blocks) (sym world)
    (subst (λ (Q : Rules). AreBlocksOf (g.M.World.objects c.args.world.now) Q blocks) (sym profile) c.requires))

pub returns : goal.returns
returns g c =
    let world = ap g.M.World.objects c.new.ensures.world in
    let profile = ap g.P.Profile.rules c.new.ensures.profile in
    let M = g.M.World.objects c.args.world.now in
    let N = g.M.World.objects c.new.result.world.now in
    let Q = g.P.Profile.rules c.args.profile.now in
    let r = c.is_shown.result in
    let a = c.args.a in
    let b = c.args.b in
    let route = option_copied c.args.route in
    subst (λ (l : List (Option ℕ)). IfOk r (λ yes. IsTrue yes ↔ IsCertificate M Q a b route l)) c.items.ensures
    (subst (λ (O : Objects). IfOk r (λ yes. IsTrue yes ↔ IsCertificate O Q a b route c.items.result.now)) world
    (subst (λ (P : Rules). IfOk r (λ yes. IsTrue yes ↔ IsCertificate N P a b route c.items.result.now)) profile
    c.is_shown.ensures))
