-- What one may drive on by from the first state.
use Rattle.std.specs.Prelude.{◌≡◌, List, IfSome, IfNone, IsTrue}
use Rattle.road_base.specs.declared.ids.NodeId.{NodeId}
use Rattle.road_base.specs.Objects.{Objects}
use Rattle.road_model.specs.declared.lists.TurnArc.{TurnArc}
use Rattle.road_model.specs.Rules.{Rules}
use Rattle.road_model.specs.Pieces.{Span}
use Rattle.road_model.specs.Blocks.{IsArcEntry}
use Rattle.turn_automata.specs.Machines.{Machine}
use Rattle.expanded_graph.specs.declared.intersections.Intersection.{Intersection}
use Rattle.expanded_graph.specs.declared.sources.Onward.{Onward}
use Rattle.expanded_graph.specs.declared.states.StateFacts.{StateFacts}
use Rattle.expanded_graph.specs.Contexts.{IsReached}
use Rattle.expanded_graph.specs.Intersections.{may_follow}

-- The arc is the one by the departure from any context that comes to the intersection in the first state, where it may
-- go on so there; where there is none, no such context has one.
pub record IsOnward (M : Objects) (P : Rules) (m : Machine) (facts : List StateFacts) (i : Intersection) (o : Onward)
    : Type 0 where
  pub named : IfSome o.arc (λ a. a.piece ≡ o.departure.piece)
  pub arc : IfSome o.arc (λ a. (u : NodeId) (c : List Span) → IsTrue (may_follow i u o.departure)
      → IsReached M P m facts 0 u i.rules.node c → IsArcEntry M P c a)
  pub none : IfNone o.arc ((u : NodeId) (c : List Span) (a : TurnArc) → IsReached M P m facts 0 u i.rules.node c
      → IsArcEntry M P c a → a.piece ≡ o.departure.piece → ⊥)
