use Rattle.std.proofs.Common.{◌≡◌, map, take}
use Rattle.std.specs.List.{All}
use Rattle.way_lines.specs.declared.roads.Road.{Road}
use Rattle.way_lines.specs.RoadLines.{IsRoad}
use Rattle.way_lines.proofs.roads.Roads.of.Given as goal

-- the ways so far were asked
abbrev pub invariant-loop-way : goal.invariant-loop-way
invariant-loop-way g l = record {
  are : All (IsRoad (g.M.World.objects l.network.world.now) (g.P.Profile.rules l.network.profile)) l.roads.items;
  ways : map (λ (x : Road). x.way) l.roads.items ≡ take l.way-index l.ways;
}
