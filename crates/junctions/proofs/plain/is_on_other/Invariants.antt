use Rattle.std.proofs.Common.{◌≡◌, take, Contains, IsTrue}
use Rattle.road_base.specs.declared.ids.WayId.{WayId}
use Rattle.road_model.specs.Driving.{is_road}
use Rattle.junctions.proofs.plain.is_on_other.Given as goal

-- each road among the ways so far is the way
abbrev pub invariant-loop-other : goal.invariant-loop-other
invariant-loop-other g l =
    (v : WayId) → Contains (take l.other-index l.other-items) v
    → IsTrue (is_road (g.M.World.objects l.network.world.now) (g.P.Profile.rules l.network.profile) v) → v ≡ l.way
