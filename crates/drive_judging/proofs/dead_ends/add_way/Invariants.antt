use Rattle.std.proofs.Common.{◌≡◌, ◌≤◌, ◌∷◌, List, length, drop}
use Rattle.road_base.specs.declared.ids.WayId.{WayId}
use Rattle.road_model.specs.Lines.{line_of}
use Rattle.way_lines.specs.Left.{nodes_left}
use Rattle.drive_judging.specs.DeadEnds.{AreNoted, StepsBelow, StepsOf}
use Rattle.drive_judging.proofs.dead_ends.add_way.Given as goal

-- the line from this position on is the node there and what the iterator has left, and the steps before it are added
abbrev pub invariant-loop-second : goal.invariant-loop-second
invariant-loop-second g l = record {
  behind : drop l.index (line_of (g.M.World.objects l.network.world.now) l.road.way) ≡ l.first ∷ nodes_left l.nodes;
  short : length (line_of (g.M.World.objects l.network.world.now) l.road.way) ≤ 65535;
  noted : (ways done : List WayId)
      → AreNoted ways (StepsOf done) l.initial.known (g.M.World.objects l.network.world.now)
      (g.P.Profile.rules l.network.profile)
      → AreNoted ways (StepsBelow done l.road.way l.index) l.known (g.M.World.objects l.network.world.now)
      (g.P.Profile.rules l.network.profile);
}
