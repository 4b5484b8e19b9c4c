-- All contexts are there, in order.
use Rattle.way_pieces.specs.Names.{piece_of}
use Rattle.expanded_graph.proofs.ContextOrder.{listed, first_alone}
use Rattle.expanded_graph.proofs.contexts.contexts_of.Goals as goal

pub put_in_order-requires : goal.put_in_order-requires
put_in_order-requires g c = c.in_ok-contexts.ensures.distinct

pub returns-clause-listed : goal.returns-clause-listed
returns-clause-listed g c =
    let M = g.M.World.objects c.args.coming.now.network.now.world.now in
    let P = g.P.Profile.rules c.args.coming.now.network.now.profile in
    listed M P (c.one_name.ensures.pieces M) c.name_order.ensures.names c.name_order.ensures.lists
    (piece_of c.args.coming.now.span) c.requires.piece c.in_ok-contexts.contexts.items
    c.put_in_order.new.contexts.items c.in_ok-contexts.ensures c.in_ok-put_in_order.ensures.same
    c.in_ok-put_in_order.ensures.ascending

pub returns-clause-alone : goal.returns-clause-alone
returns-clause-alone g c =
    let M = g.M.World.objects c.args.coming.now.network.now.world.now in
    let P = g.P.Profile.rules c.args.coming.now.network.now.profile in
    first_alone M P (c.one_name.ensures.pieces M) c.name_order.ensures.names c.name_order.ensures.lists
    (piece_of c.args.coming.now.span) c.requires.piece c.in_ok-contexts.contexts.items
    c.put_in_order.new.contexts.items c.in_ok-contexts.ensures c.in_ok-put_in_order.ensures.same
    c.in_ok-put_in_order.ensures.ascending
