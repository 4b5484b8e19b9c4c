use Rattle.std.proofs.Common.{◌≡◌, ◌+◌, take}
use Rattle.std.specs.FinMap.{get}
use Rattle.road_model.specs.Naming.{OneBlock}
use Rattle.change_apply.specs.Engines.{AreBlocksAmong, AreInForm}
use Rattle.change_apply.proofs.building.build_each.Given as goal

-- the blocks of the ways so far are built, one for each
abbrev pub invariant-loop-way : goal.invariant-loop-way
invariant-loop-way g l = record {
  among : OneBlock l.builder.world (g.P.Profile.rules l.builder.profile)
      → AreBlocksAmong l.builder.world (g.P.Profile.rules l.builder.profile) (take l.way-index l.ways) l.blocks.map;
  forms : AreInForm (get l.blocks.map);
  built : l.steps ≡ l.initial.steps + l.way-index;
}
