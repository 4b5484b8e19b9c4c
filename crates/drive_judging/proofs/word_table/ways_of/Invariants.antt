use Rattle.std.proofs.Common.{◌↔◌, Contains, take}
use Rattle.road_base.specs.declared.ids.WayId.{WayId}
use Rattle.drive_judging.specs.DriveWords.{LiesOn}
use Rattle.drive_judging.proofs.word_table.ways_of.Given as goal

-- the ways of the steps so far
abbrev pub invariant-loop-step : goal.invariant-loop-step
invariant-loop-step l = (w : WayId) → Contains l.ways.items w ↔ LiesOn (take l.step-index l.steps) w
