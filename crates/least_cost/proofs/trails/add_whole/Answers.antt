use Rattle.std.proofs.lemmas.List.Elements.{Contains-get_or}
use Rattle.least_cost.proofs.trails.add_whole.Goals as goal

pub add_visit-requires-clause-within : goal.add_visit-requires-clause-within
add_visit-requires-clause-within c = c.requires.within _
    (Contains-get_or c.args.places.now c.loop-place.place-index 0 c.loop-place-test.true)
