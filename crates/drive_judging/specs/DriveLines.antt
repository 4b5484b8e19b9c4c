-- The lines that are kept of the ways of a drive.
use Rattle.std.specs.Prelude.{◌≡◌, List, Option, Some, Contains}
use Rattle.std.specs.BTreeMap.{BTreeMap, get}
use Rattle.road_base.specs.declared.ids.NodeId.{NodeId}
use Rattle.road_base.specs.declared.ids.WayId.{WayId}
use Rattle.road_base.specs.declared.ids.Step.{Step}
use Rattle.road_base.specs.Objects.{Objects}
use Rattle.road_model.specs.Lines.{line_of, tail_of, head_of}
use Rattle.road_model.specs.Orders.{way_cmp}
use Rattle.drive_judging.specs.declared.drive_lines.DriveLine.{DriveLine}

abbrev pub line_in : BTreeMap WayId DriveLine → WayId → Option DriveLine
line_in lines w = get way_cmp lines w

-- the way's line is kept; an empty one where the way isn't visible
pub record IsLineIn (M : Objects) (lines : BTreeMap WayId DriveLine) (w : WayId) : Type 0 where
  pub line : DriveLine
  pub at : line_in lines w ≡ Some line
  pub is : line.nodes.items ≡ line_of M w

-- the line of each step's way is kept
abbrev pub AreLinesOn : Objects → BTreeMap WayId DriveLine → List Step → Type 0
AreLinesOn M lines steps = (s : Step) → Contains steps s → IsLineIn M lines s.way

-- the step begins at the one node and ends at the other
abbrev pub HasEnds : Objects → Step → NodeId × NodeId → Type 0
HasEnds M s p = (tail_of M s ≡ Some p.0) × (head_of M s ≡ Some p.1)
