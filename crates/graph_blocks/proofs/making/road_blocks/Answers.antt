use Rattle.std.proofs.Common.{ap, sym, ◌∙◌}
use Rattle.graph_blocks.specs.Lent.{map_of}
use Rattle.graph_blocks.proofs.LentBlocks.{map_again}
use Rattle.graph_blocks.proofs.making.road_blocks.Goals as goal

pub returns : goal.returns
returns c =
    ap map_of (c.in_ok-of.ensures ∙ sym c.into_list.ensures.entries)
    ∙ map_again c.name_order.ensures.ways c.name_order.ensures.way_ties c.args.blocks.map
