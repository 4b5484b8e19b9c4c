use Rattle.std.proofs.Common.{sym}
use Rattle.ordered_lists.proofs.SortedMaps.{above_from}
use Rattle.layered_maps.proofs.keyed_search.find_near.Goals as goal

pub returns-in-Some-2-clause-behind : goal.returns-in-Some-2-clause-behind
returns-in-Some-2-clause-behind g c =
    above_from g.V.Keyed.key g.K.Ord.cmp g.met.K.Ord.total c.args.key c.args.list.now c.in-Some.value.now c.args.at
    c.requires.ascending (sym c.in-Some.ensures) (c.is_above.ensures c.if-is_above.true)
