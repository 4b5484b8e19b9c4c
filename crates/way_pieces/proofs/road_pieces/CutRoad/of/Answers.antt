-- The pieces are those that the block lists, or were cut.
use Rattle.std.proofs.Common.{subst}
use Rattle.way_pieces.specs.declared.met_ways.PieceSource.{PieceSource}
use Rattle.way_pieces.specs.RoadPieces.{IsSource}
use Rattle.way_pieces.proofs.road_pieces.CutRoad.of.Goals as goal
use Rattle.way_pieces.proofs.road_pieces.CutRoad.of.Goals.{in-Listed+in_ok-pieces-in-Listed, in-Cut+in_ok-pieces-in-Cut}

pub returns : goal.returns
returns g c =
    let M = g.M.World.objects c.args.network.now.world.now in
    let P = g.P.Profile.rules c.args.network.now.profile in
    let way = c.args.met.now.road.way in
    elim c.match-met.branch [
      | in-Listed+in_ok-pieces-in-Listed w ↦ rw w.pieces-is
          (record {
            pieces = w.in_ok-pieces-in-Listed.ensures M P way
                (subst (λ (s : PieceSource). IsSource M P way s) w.in-Listed.is c.requires.met.source);
            line = tt;
          })
      | in-Cut+in_ok-pieces-in-Cut w ↦ rw w.pieces-is
          (record { pieces = w.in_ok-pieces-in-Cut.ensures; line = tt })
    ]
