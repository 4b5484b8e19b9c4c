use Rattle.layered_maps.proofs.FirstLists.{StayMarked}
use Rattle.layered_maps.proofs.list_layers.mark.Given as goal

-- what was marked before still is
abbrev pub invariant-loop-key : goal.invariant-loop-key
invariant-loop-key g l = StayMarked l.fn.marks l.marks
