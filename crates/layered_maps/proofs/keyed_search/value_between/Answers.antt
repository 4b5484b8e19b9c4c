use Rattle.std.proofs.Common.{sym}
use Rattle.layered_maps.proofs.FoundPlaces.{found_value}
use Rattle.layered_maps.proofs.keyed_search.value_between.Goals as goal

pub returns-in-Some : goal.returns-in-Some
returns-in-Some g c =
    found_value g.V.Keyed.key g.K.Ord.cmp g.met.K.Ord.total c.args.list.now c.requires.ascending c.args.key _
    c.in-Some.value.now (sym (c.run-run.ensures _ c.in-Some.value.now (sym c.in-Some.ensures.item)))
    (c.is_at.ensures c.if-is_at.true)
