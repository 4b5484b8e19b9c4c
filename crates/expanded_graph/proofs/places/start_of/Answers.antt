-- The first step begins at one node of the line, and ends at its neighbour in the direction.
use Rattle.expanded_graph.proofs.PiecePlaces.{starts_forward, starts_backward}
use Rattle.expanded_graph.proofs.places.start_of.Goals as goal

pub returns-in-Forward-clause-leaves : goal.returns-in-Forward-clause-leaves
returns-in-Forward-clause-leaves g c =
    let made = c.leaving.ensures in
    starts_forward (g.M.World.objects c.args.network.now.world.now) (g.P.Profile.rules c.args.network.now.profile)
    c.args.span c.args.nodes.now c.requires.ascends c.requires.within c.requires.line c.requires.piece c.in-Forward.is
    c.index-nodes-low.result c.index-nodes-low-in-Forward.result c.leaving.result.departure c.leaving.result.at
    made.piece made.first made.at made.toward

pub returns-in-Backward-clause-leaves : goal.returns-in-Backward-clause-leaves
returns-in-Backward-clause-leaves g c =
    let made = c.leaving-in-Backward.ensures in
    starts_backward (g.M.World.objects c.args.network.now.world.now) (g.P.Profile.rules c.args.network.now.profile)
    c.args.span c.args.nodes.now c.requires.ascends c.requires.within c.requires.line c.requires.piece c.in-Backward.is
    c.index-nodes-high.result c.index-nodes-high-in-Backward.result c.leaving-in-Backward.result.departure
    c.leaving-in-Backward.result.at made.piece made.first made.at made.toward
