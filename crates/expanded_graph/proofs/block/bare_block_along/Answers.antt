-- All pieces of the way were written.
use Rattle.std.proofs.Common.{refl}
use Rattle.std.proofs.lemmas.List.Elements.{All-weaker, All-contains_itself}
use Rattle.way_pieces.specs.Names.{IsSpanOn}
use Rattle.expanded_graph.proofs.BarePieces.{is_bare_block, has_bare_form}
use Rattle.expanded_graph.proofs.block.bare_block_along.Goals as goal

pub bare_pieces_along-requires-clause-spans : goal.bare_pieces_along-requires-clause-spans
bare_pieces_along-requires-clause-spans g c =
    let M = g.M.World.objects c.args.network.now.world.now in
    let P = g.P.Profile.rules c.args.network.now.profile in
    let spans = c.args.spans.now in
    All-weaker _ (IsSpanOn M P c.args.line.now.road.way) (λ s has. c.requires.spans.sound s has) spans
    (All-contains_itself spans)

pub returns-clause-block : goal.returns-clause-block
returns-clause-block g c =
    let M = g.M.World.objects c.args.network.now.world.now in
    let P = g.P.Profile.rules c.args.network.now.profile in
    let written = c.in_ok-pieces.ensures in
    is_bare_block M P c.args.line.now.road.way c.args.spans.now c.requires.spans c.in_ok-pieces.pieces.items
    written.names written.entries _ refl c.from_list.ensures

pub returns-clause-form : goal.returns-clause-form
returns-clause-form g c =
    let M = g.M.World.objects c.args.network.now.world.now in
    let P = g.P.Profile.rules c.args.network.now.profile in
    let written = c.in_ok-pieces.ensures in
    has_bare_form M P c.args.line.now.road.way c.args.spans.now c.requires.spans c.in_ok-pieces.pieces.items
    written.names written.entries c.name_order.ensures.ways written.forms c.from_list.result c.from_list.ensures
