-- Ways near which an automaton watches for words, and pieces that it has nothing to say of.
use Rattle.std.specs.Prelude.{◌≡◌, List, [], ◌∷◌, ◌++◌, length, Contains}
use Rattle.road_base.specs.declared.ids.NodeId.{NodeId}
use Rattle.road_base.specs.declared.ids.WayId.{WayId}
use Rattle.road_base.specs.Objects.{Objects}
use Rattle.road_model.specs.Rules.{Rules}
use Rattle.road_model.specs.Pieces.{Span}
use Rattle.road_model.specs.Network.{IsContext}
use Rattle.turn_automata.specs.Machines.{Machine}
use Rattle.way_pieces.specs.Names.{Arrives}
use Rattle.expanded_graph.specs.declared.states.StateFacts.{StateFacts}
use Rattle.expanded_graph.specs.declared.watched.WatchedWays.{WatchedWays}
use Rattle.expanded_graph.specs.Contexts.{AreEndings, IsReached}
use Rattle.expanded_graph.specs.States.{AreStates}

-- the automaton has the words near each of the ways, its states have their facts, and the endings are those of these
-- states
pub record AreWatched (M : Objects) (P : Rules) (t : WatchedWays) : Type 0 where
  pub count : length t.states.facts.items ≡ length t.states.automaton.states
  pub states : (w : WayId)
      → Contains t.ways.items w
      → AreStates M P w t.states.automaton.words t.states.automaton.states t.states.facts.items
  pub endings : AreEndings t.states.automaton t.states.facts.items t.endings.items

-- wherever the piece comes, the context of it alone leaves the automaton in its first state, and no other context ends
-- with the piece
pub record IsPlainPiece (M : Objects) (P : Rules) (m : Machine) (facts : List StateFacts) (q : Span) : Type 0 where
  pub reached : (u v : NodeId) → Arrives M q u v → IsReached M P m facts 0 u v (q ∷ [])
  pub alone : (front : List Span) → IsContext M P (front ++ q ∷ []) → front ≡ []
