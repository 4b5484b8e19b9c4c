-- The states are those near these ways.
use Rattle.std.proofs.Common.{List, sym, subst, Contains}
use Rattle.road_base.specs.declared.ids.WayId.{WayId}
use Rattle.expanded_graph.proofs.watched.WatchedWays.of.Goals as goal

pub returns-clause-are : goal.returns-clause-are
returns-clause-are g c = record {
  count = c.in_ok-states.ensures.count;
  states = λ w has.
      c.in_ok-states.ensures.states w (subst (λ (l : List WayId). Contains l w) (sym c.as_slice.ensures.value) has);
  endings = c.in_ok-endings.ensures;
}
