use Rattle.std.proofs.Common.{List, IfOk, subst}
use Rattle.road_base.specs.declared.ids.WayId.{WayId}
use Rattle.road_model.specs.declared.blocks.Block.{Block}
use Rattle.change_apply.specs.Rebuilding.{AreRebuilt, over}
use Rattle.change_apply.proofs.building.rebuild.Goals as goal

pub returns-clause-rebuilt : goal.returns-clause-rebuilt
returns-clause-rebuilt g c =
    subst (λ b. IfOk c.rebuild_each.result (λ r. (before : List (WayId × Block))
    → AreRebuilt (g.M.World.objects b.world) (g.P.Profile.rules b.profile) c.args.ways.now before (over r.map before)))
    c.in_ok-builder.ensures c.rebuild_each.ensures.rebuilt
