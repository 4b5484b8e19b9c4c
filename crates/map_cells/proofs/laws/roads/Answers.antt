use Rattle.map_cells.proofs.RoadParts.{same_road, same_graph}
use Rattle.map_cells.proofs.laws.roads.Goals as goal

pub returns-clause-blocks : goal.returns-clause-blocks
returns-clause-blocks g c M R b roads = same_road M R roads (g.P.Profile.rules c.args.profile.now)
    (c.blocks_stay.ensures M R) c.roads_refer.ensures.blocks b

pub returns-clause-graph : goal.returns-clause-graph
returns-clause-graph g c M R bytes roads = same_graph M R roads (g.P.Profile.rules c.args.profile.now)
    (c.blocks_stay.ensures M R) c.roads_refer.ensures.blocks bytes
