-- Nodes where pieces start or end, and what may follow there.
use Rattle.std.specs.Prelude.{◌≡◌, ◌==◌, ℕ, List, length, Bool, true, cond, not, Some, slice_get, IsTrue, Contains}
use Rattle.road_base.specs.declared.ids.NodeId.{NodeId}
use Rattle.road_base.specs.Objects.{Objects}
use Rattle.road_model.specs.Rules.{Rules}
use Rattle.road_model.specs.Lines.{same_node}
use Rattle.ordered_lists.specs.Orders.{Lists}
use Rattle.road_model.specs.Orders.{name_cmp}
use Rattle.road_model.specs.Pieces.{Span}
use Rattle.road_model.specs.Blocks.{IsArcEntry}
use Rattle.turn_automata.specs.Machines.{Machine}
use Rattle.way_lines.specs.declared.node_rules.NodeRules.{NodeRules}
use Rattle.way_lines.specs.NodeTurns.{HasRules, may_turn}
use Rattle.way_pieces.specs.declared.departures.Departure.{Departure}
use Rattle.way_pieces.specs.Names.{IsDeparture}
use Rattle.expanded_graph.specs.declared.arrivals.Incoming.{Incoming}
use Rattle.expanded_graph.specs.declared.intersections.Intersection.{Intersection}
use Rattle.expanded_graph.specs.declared.intersections.Intersections.{Intersections}
use Rattle.expanded_graph.specs.declared.states.StateFacts.{StateFacts}
use Rattle.expanded_graph.specs.Arrivals.{AreComing}
use Rattle.expanded_graph.specs.Contexts.{IsReached}

-- what is told of the node and of what leaves it is so
pub record AreKnownAt (M : Objects) (P : Rules) (r : NodeRules) (ds : List Departure) : Type 0 where
  pub rules : HasRules M P r
  pub leaving : Lists (λ d. d.piece) name_cmp (IsDeparture M P r.node) ds

-- what is known of the node is so
abbrev pub IsIntersection : Objects → Rules → Intersection → Type 0
IsIntersection M P i = AreKnownAt M P i.rules i.departures.now

-- each list of departures is that of the node at its place
abbrev pub AreLeavingAll : Objects → Rules → List NodeRules → List (List Departure) → Type 0
AreLeavingAll M P rules departures =
    (k : ℕ) (r : NodeRules) (ds : List Departure)
    → slice_get rules k ≡ Some r → slice_get departures k ≡ Some ds → AreKnownAt M P r ds

-- each list of arrivals is that of the node at its place
abbrev pub AreComingAll : Objects → Rules → Machine → List StateFacts → List NodeRules → List (List Incoming) → Type 0
AreComingAll M P m facts rules arrivals =
    (k : ℕ) (r : NodeRules) (cs : List Incoming)
    → slice_get rules k ≡ Some r → slice_get arrivals k ≡ Some cs → AreComing M P m facts r.node cs

-- Who comes from the node u may go on by the departure at a node with these rules, which n pieces leave: back to u at a
-- place to turn round, where nothing goes through and where nothing else leaves, and elsewhere where it isn't shut.
abbrev pub follows : NodeRules → ℕ → NodeId → Departure → Bool
follows r n u d = cond (same_node d.toward u) (may_turn r (n == 1)) (not r.is_shut)

-- the same at an intersection
abbrev pub may_follow : Intersection → NodeId → Departure → Bool
may_follow i u d = follows i.rules (length i.departures.now) u d

-- behind each context that comes to the node in the first state, and may go on by a departure, an arc leads by it to
-- its piece alone
abbrev pub AreFree : Objects → Rules → Machine → List StateFacts → NodeRules → List Departure → Type 0
AreFree M P m facts r ds =
    (d : Departure) (u : NodeId) (c : List Span)
    → Contains ds d → IsTrue (follows r (length ds) u d) → IsReached M P m facts 0 u r.node c
    → IsArcEntry M P c (record { piece = d.piece; length = 1 })

-- the nodes that are said to be free are so
abbrev pub AreFreeAll : Objects → Rules → Machine → List StateFacts → List NodeRules → List (List Departure) → List Bool
    → Type 0
AreFreeAll M P m facts rules departures free =
    (k : ℕ) (r : NodeRules) (ds : List Departure)
    → slice_get rules k ≡ Some r → slice_get departures k ≡ Some ds → slice_get free k ≡ Some true
    → AreFree M P m facts r ds

-- what is known of each node is so; nothing may be known of what comes there
pub record AreIntersections (M : Objects) (P : Rules) (m : Machine) (facts : List StateFacts) (known : Intersections)
    : Type 0 where
  pub leaving : AreLeavingAll M P known.rules.items known.departures
  pub free : AreFreeAll M P m facts known.rules.items known.departures known.free.items
  pub coming : AreComingAll M P m facts known.rules.items known.arrivals
