use Rattle.std.proofs.Common.{◌≡◌, take}
use Rattle.change_apply.specs.Rebuilding.{listed}
use Rattle.change_apply.proofs.sameness.same_spans.Given as goal

-- the pieces so far have the same names and ends
abbrev pub invariant-loop-at : goal.invariant-loop-at
invariant-loop-at l = listed (take l.at l.a) ≡ listed (take l.at l.b)
