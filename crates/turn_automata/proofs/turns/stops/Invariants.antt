use Rattle.std.proofs.Common.{List, ◌<◌, length}
use Rattle.road_base.specs.declared.ids.Step.{Step}
use Rattle.restrictions.specs.declared.word_list.Word.{Word}
use Rattle.turn_automata.specs.Trees.{Stands}
use Rattle.turn_automata.specs.Turns.{IsWatching}
use Rattle.turn_automata.proofs.LongestEnds.{IsLeft}
use Rattle.turn_automata.proofs.TurnsOfVisits.{IsStopped}
use Rattle.turn_automata.proofs.turns.stops.Given as goal

-- behind no longer end of the list than this one is the step stopped
abbrev pub invariant-loop-end : goal.invariant-loop-end
invariant-loop-end l = record {
  within : l.end < length l.links;
  left : (W : List Word) (ps : List (List Step)) → IsWatching W ps l.links l.turns → (p : List Step)
      → Stands ps l.list p → IsLeft ps (IsStopped W ps l.step) p l.end;
}

abbrev pub decreases-loop-end : goal.decreases-loop-end
decreases-loop-end l = l.end
