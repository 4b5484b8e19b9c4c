use Rattle.std.proofs.Common.{◌≡◌, ◌++◌, Some, slice_get, sym, ◌∙◌, ap}
use Rattle.ordered_lists.proofs.ListPlaces.{read_at}
use Rattle.least_cost.proofs.LeastRoutes.{steps_there}
use Rattle.least_cost.proofs.trails.add_visit.Goals as goal

pub add_piece-requires : goal.add_piece-requires
add_piece-requires c =
    let v = c.index-visits-place.result in
    c.requires.ascend c.args.place v
    (read_at c.args.visits.now c.args.place v c.requires.within c.index-visits-place.is)

pub returns : goal.returns
returns c =
    let v = c.index-visits-place.result in
    let e = read_at c.args.visits.now c.args.place v c.requires.within c.index-visits-place.is in
    c.in_ok-add_piece.ensures
    ∙ ap (λ l. c.args.steps.now.items ++ l) (sym (steps_there c.args.visits.now c.args.place v e))
