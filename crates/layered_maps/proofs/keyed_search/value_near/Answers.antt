use Rattle.std.proofs.Common.{option_copied}
use Rattle.layered_maps.proofs.FoundPlaces.{found_there}
use Rattle.layered_maps.proofs.keyed_search.value_near.Goals as goal

pub returns-in-Some : goal.returns-in-Some
returns-in-Some g c =
    found_there g.V.Keyed.key g.K.Ord.cmp g.met.K.Ord.total c.args.list.now c.requires.ascending c.args.key
    c.in-Some.place c.in-Some.ensures.within c.in-Some.ensures.found (option_copied c.get.result) c.get.ensures
