use Rattle.layered_maps.proofs.HeldLists.{of_base}
use Rattle.layered_maps.proofs.layered_lists.LayeredLists.of.Goals as goal

pub returns : goal.returns
returns g c =
    of_base g.K.Ord.cmp c.new-layers.result c.args.pairs.items c.in_ok-list.list c.in_ok-floor.floor.value
    c.new-layers.ensures c.in_ok-floor.ensures.ok c.in_ok-list.ensures
