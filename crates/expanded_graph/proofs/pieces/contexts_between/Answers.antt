-- The contexts are those of the piece that starts so.
use Rattle.way_pieces.specs.Names.{piece_of}
use Rattle.expanded_graph.proofs.SourceContexts.{begins_same, forms}
use Rattle.expanded_graph.proofs.pieces.contexts_between.Goals as goal

pub returns-clause-listed : goal.returns-clause-listed
returns-clause-listed g c =
    c.in_ok-written.ensures.listed (piece_of c.args.span) c.requires.piece c.requires.named c.in_ok-bare.ensures.listed

pub returns-clause-alone : goal.returns-clause-alone
returns-clause-alone g c =
    begins_same c.in_ok-written.written.items c.in_ok-bare.bare.items c.in_ok-written.ensures.names
    c.in_ok-bare.ensures.alone

pub returns-clause-forms : goal.returns-clause-forms
returns-clause-forms g c =
    let M = g.M.World.objects c.args.network.now.world.now in
    let P = g.P.Profile.rules c.args.network.now.profile in
    let p = piece_of c.args.span in
    forms M P (c.one_name.ensures.pieces M) c.name_order.ensures.names c.name_order.ensures.lists p
    (c.context_steps.ensures.short M) c.in_ok-written.written.items
    (c.in_ok-written.ensures.listed p c.requires.piece c.requires.named c.in_ok-bare.ensures.listed)
