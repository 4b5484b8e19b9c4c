-- What the blocks of ways are built from.
use Rattle.road_base.specs.Objects.{Objects}
use Rattle.road_model.specs.Rules.{Rules}
use Rattle.way_pieces.specs.RoadPieces.{AreRoadPieces}
use Rattle.expanded_graph.specs.declared.tables.Tables.{Tables}
use Rattle.expanded_graph.specs.Intersections.{AreIntersections}
use Rattle.expanded_graph.specs.Watched.{AreWatched}

-- what is known of ways, nodes and states is so
pub record AreTables (M : Objects) (P : Rules) (t : Tables) : Type 0 where
  pub pieces : AreRoadPieces M P t.pieces
  pub watched : AreWatched M P t.watched
  pub intersections : AreIntersections M P t.watched.states.automaton t.watched.states.facts.items t.intersections
