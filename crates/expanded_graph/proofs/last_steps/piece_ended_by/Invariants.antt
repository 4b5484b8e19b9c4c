use Rattle.expanded_graph.proofs.LastSteps.{NoneEnds}
use Rattle.expanded_graph.proofs.last_steps.piece_ended_by.Given as goal

-- none of the spans so far ends with the step
abbrev pub invariant-loop-span : goal.invariant-loop-span
invariant-loop-span l = NoneEnds l.span-items l.span-index l.step
