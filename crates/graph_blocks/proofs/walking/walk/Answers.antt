use Rattle.graph_blocks.proofs.LentBlocks.{values_again, each_again}
use Rattle.graph_blocks.proofs.walking.walk.Goals as goal

pub returns : goal.returns
returns c =
    let o = c.name_order.ensures in
    let pairs = c.args.blocks.now in
    let blocks = c.walk.result in
    record {
      blocks = values_again o.ways o.way_ties pairs blocks c.walk.ensures.pairs c.walk.ensures.rising;
      ascending = c.walk.ensures.rising;
      each = each_again o.ways o.way_ties pairs blocks c.walk.ensures.pairs c.walk.ensures.rising;
    }
