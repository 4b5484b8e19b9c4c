use Rattle.std.proofs.Common.{sym}
use Rattle.ordered_lists.proofs.ListPlaces.{read_at}
use Rattle.context_search.specs.Routes.{spelled, steps_at}
use Rattle.context_search.proofs.SearchRoutes.{steps_known, added}
use Rattle.context_search.proofs.routes.add_visit.Goals as goal

pub add_piece-requires : goal.add_piece-requires
add_piece-requires c = c.requires.spelled c.args.place c.index-visits-place.result
    (read_at c.args.visits.now c.args.place c.index-visits-place.result c.requires.within c.index-visits-place.is)

pub returns : goal.returns
returns c =
    let visits = c.args.visits.now in
    let v = c.index-visits-place.result in
    let at = read_at visits c.args.place v c.requires.within c.index-visits-place.is in
    added c.add_piece.result c.add_piece.new.steps.items c.args.steps.now.items (spelled v.spot.piece.now)
    (steps_at visits c.args.place) (sym (steps_known visits c.args.place v at)) c.add_piece.ensures
