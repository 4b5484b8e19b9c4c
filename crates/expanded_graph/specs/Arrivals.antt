-- The pieces that come to a node, and those among them of which the words say nothing.
use Rattle.std.specs.Prelude.{List, map, IsTrue, Contains}
use Rattle.road_base.specs.declared.ids.NodeId.{NodeId}
use Rattle.road_base.specs.Objects.{Objects}
use Rattle.road_model.specs.Rules.{Rules}
use Rattle.ordered_lists.specs.Orders.{Lists}
use Rattle.road_model.specs.Orders.{name_cmp}
use Rattle.turn_automata.specs.Machines.{Machine}
use Rattle.way_pieces.specs.declared.arrivals.Arrival.{Arrival}
use Rattle.way_pieces.specs.Names.{IsArrival, piece_of}
use Rattle.expanded_graph.specs.declared.arrivals.Incoming.{Incoming}
use Rattle.expanded_graph.specs.declared.states.StateFacts.{StateFacts}
use Rattle.expanded_graph.specs.Watched.{IsPlainPiece}

-- the piece that comes, and the node from which
abbrev pub arrival_of : Incoming → Arrival
arrival_of c = record {
  span = record { name = record { way = c.way; index = c.index; dir = c.dir }; end = c.end };
  from = c.from;
}

-- they are what comes to node v, and of those that are said to be plain the automaton has nothing to say
pub record AreComing (M : Objects) (P : Rules) (m : Machine) (facts : List StateFacts) (v : NodeId)
    (cs : List Incoming) : Type 0 where
  pub listed : Lists (λ a. a.span.name) name_cmp (IsArrival M P v) (map arrival_of cs)
  pub plain : (c : Incoming) → Contains cs c → IsTrue c.is_plain
      → IsPlainPiece M P m facts (piece_of (arrival_of c).span)
