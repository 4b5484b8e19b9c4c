use Rattle.std.proofs.Common.{◌<◌, ◌≤◌, ◌-◌, length, get_or}
use Rattle.ordered_lists.specs.Orders.{Lists}
use Rattle.road_model.specs.Orders.{name_cmp}
use Rattle.way_pieces.specs.Stretches.{IsSpanBelow}
use Rattle.way_pieces.proofs.spans.spans_along.Given as goal

-- the pieces below the junction that was last looked at are listed
abbrev pub invariant-loop-at : goal.invariant-loop-at
invariant-loop-at g l =
    let M = g.M.World.objects l.network.world.now in
    let P = g.P.Profile.rules l.network.profile in
    record {
      some : 0 < length l.junctions;
      from : 1 ≤ l.at;
      upto : l.at - 1 ≤ length l.junctions - 1;
      listed : Lists (λ z. z.name) name_cmp (IsSpanBelow M P l.line.road.way (get_or l.junctions (l.at - 1) 0))
          l.spans.items;
    }
