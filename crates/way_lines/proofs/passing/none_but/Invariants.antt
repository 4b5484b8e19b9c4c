use Rattle.std.proofs.Common.{◌≡◌, ◌<◌, ◌≤◌, ◌∷◌, length, drop}
use Rattle.road_base.specs.declared.ids.Step.{Step}
use Rattle.road_model.specs.Lines.{line_of}
use Rattle.road_model.specs.Driving.{Leaves}
use Rattle.way_lines.specs.Left.{nodes_left}
use Rattle.way_lines.proofs.passing.none_but.Given as goal

-- the line from this position on is the node there and what the iterator has left, and no step before it leaves
abbrev pub invariant-loop-second : goal.invariant-loop-second
invariant-loop-second g l = record {
  behind : drop l.index (line_of (g.M.World.objects l.network.world.now) l.way) ≡ l.first ∷ nodes_left l.nodes;
  short : length (line_of (g.M.World.objects l.network.world.now) l.way) ≤ 65535;
  others : (u : Step) → u.way ≡ l.way → u.index < l.index
      → Leaves (g.M.World.objects l.network.world.now) (g.P.Profile.rules l.network.profile) l.node u → u ≡ l.step;
}
