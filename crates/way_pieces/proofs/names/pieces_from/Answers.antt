-- The names of the departures are those of the pieces.
use Rattle.std.proofs.Common.{List, map, slice_get, ap, ◌∙◌}
use Rattle.road_model.specs.Orders.{name_cmp}
use Rattle.way_pieces.specs.declared.departures.Departure.{Departure}
use Rattle.way_pieces.specs.Names.{IsNameFrom, IsDeparture}
use Rattle.ordered_lists.proofs.JoinedLists.{lists_names}
use Rattle.way_pieces.proofs.DepartureLists.{departs}
use Rattle.way_pieces.proofs.names.pieces_from.Goals as goal

pub returns : goal.returns
returns g c =
    let M = g.M.World.objects c.args.world.now in
    let P = g.P.Profile.rules c.args.profile.now in
    let v = c.args.node in
    lists_names (λ (z : Departure). z.piece) name_cmp (IsDeparture M P v) (IsNameFrom M P v)
    c.in_ok-departures.departures.items _
    (c.from_list.ensures
    ∙ (c.in_ok-names.ensures ∙ ap (λ (l : List Departure). map (λ d. d.piece) l) c.as_slice.ensures.value))
    c.in_ok-departures.ensures
    (λ z dep. record {
      piece = dep.piece;
      is = dep.is;
      named = dep.named;
      first = z.first;
      begins = ap
          (λ l. slice_get l 0) dep.begins;
      leaves = dep.leaves;
    })
    (departs M P v)
