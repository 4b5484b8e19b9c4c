-- The starts that are read are those of the way's pieces, and sorting leaves those of each node as they were.
use Rattle.std.proofs.Common.{filter_map, ap, ◌∙◌}
use Rattle.way_pieces.specs.Listed.{listed_start}
use Rattle.way_pieces.proofs.ListedPieces.{starts_listed}
use Rattle.way_pieces.proofs.listed.starts_in.Goals as goal

pub returns : goal.returns
returns c = λ M P w lists.
    starts_listed M P w c.args.block.now lists c.in_ok-starts.starts.items c.put_in_order.new.items.items
    (c.in_ok-starts.ensures ∙ ap (filter_map listed_start) c.items.ensures)
    c.in_ok-put_in_order.ensures.sorted c.in_ok-put_in_order.ensures.stable
