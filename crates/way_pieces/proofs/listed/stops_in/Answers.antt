-- The ends that are read are those of the way's pieces, and sorting leaves those of each node as they were.
use Rattle.std.proofs.Common.{filter_map, ap, ◌∙◌}
use Rattle.way_pieces.specs.Listed.{listed_stop}
use Rattle.way_pieces.proofs.ListedPieces.{stops_listed}
use Rattle.way_pieces.proofs.listed.stops_in.Goals as goal

pub returns : goal.returns
returns c = λ M P w lists.
    stops_listed M P w c.args.block.now lists c.in_ok-stops.stops.items c.put_in_order.new.items.items
    (c.in_ok-stops.ensures ∙ ap (filter_map listed_stop) c.items.ensures)
    c.in_ok-put_in_order.ensures.sorted c.in_ok-put_in_order.ensures.stable
