use Rattle.std.proofs.Common.{IfOk, sym, ap, subst}
use Rattle.std.specs.FinMap.{FinMap}
use Rattle.road_base.specs.Objects.{Objects}
use Rattle.road_model.specs.declared.blocks.Block.{Block}
use Rattle.road_model.specs.Rules.{Rules}
use Rattle.road_model.specs.Orders.{way_cmp}
use Rattle.road_model.specs.BlockMap.{AreBlocksOf}
use Rattle.context_search.specs.PhaseWalks.{IsFoundIn}
use Rattle.context_search.proofs.reaching.reach_in_phases.Goals as goal

pub drive_to-requires-clause-blocks : goal.drive_to-requires-clause-blocks
drive_to-requires-clause-blocks g c =
    let world = ap g.M.World.objects c.new.ensures.world in
    let profile = ap g.P.Profile.rules c.new.ensures.profile in
    let M = g.M.World.objects c.new.result.world.now in
    let P = g.P.Profile.rules c.new.result.profile in
    let blocks = g.B.LendsBlocks.map c.args.blocks.now in
    subst (λ (m : FinMap way_cmp Block). AreBlocksOf M P m) (sym c.lend.ensures)
    (subst (λ (N : Objects). AreBlocksOf N P blocks) (sym world)
    (subst (λ (Q : Rules). AreBlocksOf (g.M.World.objects c.args.world.now) Q blocks) (sym profile) c.requires))

pub returns : goal.returns
returns g c =
    let world = ap g.M.World.objects c.new.ensures.world in
    let profile = ap g.P.Profile.rules c.new.ensures.profile in
    let F = g.F.Phases.rules c.args.phases.now in
    subst (λ (M : Objects). IfOk c.drive_to.result
    (IsFoundIn M (g.P.Profile.rules c.args.profile.now) F c.args.a c.args.b)) world
    (subst (λ (P : Rules). IfOk c.drive_to.result
    (IsFoundIn (g.M.World.objects c.new.result.world.now) P F c.args.a c.args.b)) profile c.drive_to.ensures)
