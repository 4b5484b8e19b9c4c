use Rattle.std.proofs.Common.{◌≡◌, IsTrue, length, map}
use Rattle.std.specs.FinMap.{IsAntisymmetric}
use Rattle.ordered_lists.specs.Orders.{rises}
use Rattle.layered_maps.proofs.WalkSteps.{left}
use Rattle.layered_maps.proofs.walk.Walk.next.Given as goal

-- what is left is what was
abbrev pub invariant-loop-key : goal.invariant-loop-key
invariant-loop-key g l =
    IsTrue (rises g.K.Ord.cmp (map g.V.Keyed.key l.self-inside.rest)) × IsAntisymmetric g.K.Ord.cmp
    × (left g.V.Keyed.key g.K.Ord.cmp l.self-inside.changes l.self-inside.rest
    ≡ left g.V.Keyed.key g.K.Ord.cmp l.initial.self-inside.changes l.initial.self-inside.rest)

abbrev pub decreases-loop-key : goal.decreases-loop-key
decreases-loop-key g l = length l.self-inside.changes
