use Rattle.std.proofs.Common.{◌≡◌, map, take}
use Rattle.context_search.specs.Marks.{at_of}
use Rattle.least_cost.specs.Lowered.{number_left}
use Rattle.least_cost.proofs.numbers.numbers.Given as goal

-- the contexts so far have their numbers
abbrev pub invariant-loop-place : goal.invariant-loop-place
invariant-loop-place l = l.numbers.items ≡ map (number_left l.visits l.best l.to) (map at_of (take l.place l.spots))
