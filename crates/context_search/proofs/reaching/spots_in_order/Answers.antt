use Rattle.std.proofs.Common.{map}
use Rattle.graph_blocks.specs.Lent.{map_of}
use Rattle.context_search.specs.Marks.{at_of, all_contexts}
use Rattle.context_search.specs.Sought.{AreSpots}
use Rattle.context_search.proofs.SearchEntries.{are_spots, seen_as}
use Rattle.context_search.proofs.reaching.spots_in_order.Goals as goal

pub returns : goal.returns
returns g c =
    let M = g.M.World.objects c.args.network.now.world.now in
    let P = g.P.Profile.rules c.args.network.now.profile in
    let o = c.name_order.ensures in
    let h = are_spots M P o.ways o.names o.lists ((c.one_name.ensures).pieces M) (c.has_block.ensures M)
    (map_of c.args.blocks.now) c.requires c.walk.result c.walk.ensures.each c.walk.ensures.ascending in
    seen_as c.spots_of.result (λ v. map at_of v.items) (all_contexts c.walk.result) (AreSpots M P) h
    c.spots_of.ensures
