use Rattle.std.proofs.Common.{◌≡◌}
use Rattle.layered_maps.proofs.change_lists.mark_keys.Given as goal

-- the layers are the same
abbrev pub invariant-loop-change : goal.invariant-loop-change
invariant-loop-change g l = l.layers ≡ l.fn.layers
