use Rattle.std.proofs.Common.{◌≡◌, take}
use Rattle.back_references.proofs.exchanges.same_values.Given as goal

abbrev pub invariant-loop-at : goal.invariant-loop-at
invariant-loop-at g l = take l.at l.these ≡ take l.at l.those
