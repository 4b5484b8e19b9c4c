use Rattle.layered_maps.specs.Maps.{keyed}
use Rattle.layered_maps.proofs.EntryLists.{none_there}
use Rattle.layered_maps.proofs.keyed_search.place_near.Goals as goal

pub returns-in-Err-clause-none : goal.returns-in-Err-clause-none
returns-in-Err-clause-none g c =
    none_there (keyed g.V.Keyed.key) g.K.Ord.cmp g.met.K.Ord.total c.args.list.now c.args.key c.in-Err.field-0
    (c.in-Err.ensures.below, c.in-Err.ensures.behind)
