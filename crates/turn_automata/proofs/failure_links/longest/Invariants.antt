use Rattle.std.proofs.Common.{List, ◌<◌, length}
use Rattle.road_base.specs.declared.ids.Step.{Step}
use Rattle.turn_automata.specs.Trees.{Stands}
use Rattle.turn_automata.specs.FailureLinks.{AreFailureLinks}
use Rattle.turn_automata.proofs.LongestEnds.{IsLeft, GoesOn}
use Rattle.turn_automata.proofs.failure_links.longest.Given as goal

-- no longer end of the list than this one goes on by the step
abbrev pub invariant-loop-end : goal.invariant-loop-end
invariant-loop-end l = record {
  within : l.end < length l.links;
  left : AreFailureLinks l.tree l.links → (p : List Step) → Stands l.tree l.list p
      → IsLeft l.tree (GoesOn l.tree l.step) p l.end;
}

abbrev pub decreases-loop-end : goal.decreases-loop-end
decreases-loop-end l = l.end
