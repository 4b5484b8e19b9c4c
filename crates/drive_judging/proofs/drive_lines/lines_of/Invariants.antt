use Rattle.std.proofs.Common.{Contains, take}
use Rattle.road_base.specs.declared.ids.WayId.{WayId}
use Rattle.drive_judging.specs.DriveLines.{IsLineIn}
use Rattle.drive_judging.proofs.drive_lines.lines_of.Given as goal

-- the lines of the ways so far are kept
abbrev pub invariant-loop-way : goal.invariant-loop-way
invariant-loop-way g l = (w : WayId) → Contains (take l.way-index l.ways) w
    → IsLineIn (g.M.World.objects l.world) l.lines w
