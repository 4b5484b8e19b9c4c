use Rattle.std.proofs.Common.{◌≡◌}
use Rattle.layered_maps.proofs.sinking.own_all.Given as goal

-- the floor is what it was
abbrev pub invariant-loop-entry : goal.invariant-loop-entry
invariant-loop-entry g l = l.floor.value ≡ l.initial.floor.value
