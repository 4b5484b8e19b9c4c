use Rattle.touched_ways.proofs.NearLists.{found_way}
use Rattle.touched_ways.proofs.altering.is_among.Goals as goal

pub returns : goal.returns
returns c =
    found_way c.name_order.ensures.ways c.name_order.ensures.way_ties c.args.ways.now c.args.way c.items.result.now
    c.items.ensures c.requires c.binary_search.result c.binary_search.ensures.bound c.binary_search.ensures.position
    c.is_ok.result c.is_ok.ensures.value
