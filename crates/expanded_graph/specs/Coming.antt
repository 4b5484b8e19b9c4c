-- What is known of a piece that comes to an intersection.
use Rattle.std.specs.Prelude.{ℕ, List, IsTrue}
use Rattle.road_model.specs.Pieces.{Span, IsPiece}
use Rattle.road_model.specs.Networks.{on, map_of}
use Rattle.way_pieces.specs.Names.{piece_of}
use Rattle.expanded_graph.specs.declared.coming.Coming.{Coming}
use Rattle.expanded_graph.specs.Contexts.{AreEndings, IsReached}
use Rattle.expanded_graph.specs.Intersections.{IsIntersection, AreFree}
use Rattle.expanded_graph.specs.States.{AreStates}
use Rattle.way_pieces.specs.Names.{Arrives}

-- The piece is one of the network, and comes to the intersection, of which all is known, from the node. The automaton
-- watches for the words near its way, its states have their facts, and the endings are those of these states. The
-- intersection is free for them where it is said to be.
pub record IsComing {M P : _} {W : _} {R : _} (c : Coming M P W R) : Type 0 where
  pub states : on c.network.now AreStates c.span.name.way c.states.now.automaton.words c.states.now.automaton.states
      c.states.now.facts.items
  pub endings : AreEndings c.states.now.automaton c.states.now.facts.items c.endings.now
  pub intersection : on c.network.now IsIntersection c.intersection
  pub piece : on c.network.now IsPiece (piece_of c.span)
  pub free : IsTrue c.intersection.is_free → on c.network.now AreFree c.states.now.automaton c.states.now.facts.items
      c.intersection.rules c.intersection.departures.now
  pub arrives : Arrives (map_of c.network.now) (piece_of c.span) c.from c.intersection.rules.node

-- the context comes to the intersection, and its turn steps leave the automaton in the state with number n
abbrev pub IsReachedIn : {M P : _} {W : _} {R : _} → Coming M P W R → ℕ → List Span → Type 0
IsReachedIn c n context =
    on c.network.now IsReached c.states.now.automaton c.states.now.facts.items n c.from c.intersection.rules.node
    context
