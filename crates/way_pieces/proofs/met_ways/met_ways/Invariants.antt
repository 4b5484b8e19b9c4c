use Rattle.std.proofs.Common.{◌≡◌, map, take}
use Rattle.std.specs.List.{All}
use Rattle.way_pieces.specs.declared.met_ways.MetWay.{MetWay}
use Rattle.way_pieces.specs.RoadPieces.{IsMetWay}
use Rattle.way_pieces.proofs.met_ways.met_ways.Given as goal

-- the ways so far
abbrev pub invariant-loop-way : goal.invariant-loop-way
invariant-loop-way g l = record {
  are : All (IsMetWay (g.M.World.objects l.network.world.now) (g.P.Profile.rules l.network.profile)) l.met.items;
  ways : map (λ (m : MetWay). m.road.way) l.met.items ≡ take l.way-index l.ways;
}
