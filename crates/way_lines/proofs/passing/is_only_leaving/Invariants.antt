use Rattle.std.proofs.Common.{◌≡◌, take, Contains}
use Rattle.road_base.specs.declared.ids.Step.{Step}
use Rattle.road_model.specs.Driving.{Leaves}
use Rattle.way_lines.proofs.passing.is_only_leaving.Given as goal

-- no step of the ways so far leaves
abbrev pub invariant-loop-way : goal.invariant-loop-way
invariant-loop-way g l =
    (u : Step) → Contains (take l.way-index l.way-items) u.way
    → Leaves (g.M.World.objects l.network.world.now) (g.P.Profile.rules l.network.profile) l.node u → u ≡ l.step
