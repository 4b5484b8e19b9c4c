use Rattle.std.proofs.Common.{◌≡◌, ◌+◌, List, take}
use Rattle.road_base.specs.declared.ids.WayId.{WayId}
use Rattle.road_model.specs.declared.blocks.Block.{Block}
use Rattle.change_apply.specs.Rebuilding.{AreRebuilt, over}
use Rattle.change_apply.proofs.building.rebuild_each.Given as goal

-- the blocks of the ways so far are built, one for each
abbrev pub invariant-loop-way : goal.invariant-loop-way
invariant-loop-way g l = record {
  rebuilt : (before : List (WayId × Block)) → AreRebuilt (g.M.World.objects l.builder.world)
      (g.P.Profile.rules l.builder.profile) (take l.way-index l.ways) before (over l.blocks.map before);
  built : l.steps ≡ l.initial.steps + l.way-index;
}
