use Rattle.std.proofs.Common.{◌↔◌, Contains, take}
use Rattle.road_base.specs.declared.ids.RelationId.{RelationId}
use Rattle.drive_judging.specs.DriveWords.{IsMemberOf}
use Rattle.drive_judging.proofs.word_table.relations_of.Given as goal

-- the restrictions of the ways so far
abbrev pub invariant-loop-way : goal.invariant-loop-way
invariant-loop-way g l =
    (r : RelationId) → Contains l.relations.items r
    ↔ IsMemberOf (g.M.World.objects l.world) (take l.way-index l.ways) r
