use Rattle.expanded_graph.proofs.PiecePlaces.{arrives_forward, arrives_backward}
use Rattle.expanded_graph.proofs.places.end_of.Goals as goal

pub returns-in-Forward : goal.returns-in-Forward
returns-in-Forward g c =
    arrives_forward (g.M.World.objects c.args.network.now.world.now) (g.P.Profile.rules c.args.network.now.profile)
    c.args.span c.args.nodes.now c.requires.ascends c.requires.within c.requires.line c.in-Forward.is
    c.index-nodes-high.result c.index-nodes-high-in-Forward.result

pub returns-in-Backward : goal.returns-in-Backward
returns-in-Backward g c =
    arrives_backward (g.M.World.objects c.args.network.now.world.now) (g.P.Profile.rules c.args.network.now.profile)
    c.args.span c.args.nodes.now c.requires.ascends c.requires.within c.requires.line c.in-Backward.is
    c.index-nodes-low.result c.index-nodes-low-in-Backward.result
