use Rattle.std.proofs.Common.{ℕ, ◌<◌, ◌⊎◌, Contains}
use Rattle.std.specs.Ordering.{nat_cmp}
use Rattle.road_model.specs.Pieces.{IsPlain}
use Rattle.ordered_lists.specs.Orders.{Lists}
use Rattle.junctions.specs.Junctions.{IsJunction}
use Rattle.junctions.proofs.junction_list.junctions_along.Given as goal

-- of the positions so far the junctions are listed, and the others are plain
abbrev pub invariant-loop-at : goal.invariant-loop-at
invariant-loop-at g l =
    let M = g.M.World.objects l.network.world.now in
    let P = g.P.Profile.rules l.network.profile in
    record {
      listed : Lists (λ i. i) nat_cmp (λ i. (i < l.at) × IsJunction M P l.line.road.way i) l.junctions.items;
      others : (i : ℕ) → i < l.at → Contains l.junctions.items i ⊎ IsPlain M P l.line.road.way i;
    }
