use Rattle.std.proofs.Common.{◌≡◌, take}
use Rattle.change_apply.proofs.sameness.same_sources.Given as goal

-- the sources so far are equal
abbrev pub invariant-loop-at : goal.invariant-loop-at
invariant-loop-at l = take l.at l.a ≡ take l.at l.b
