use Rattle.std.proofs.Common.{◌≡◌, ◌++◌, take}
use Rattle.std.specs.List.{flat_map}
use Rattle.least_cost.specs.Trails.{steps_at}
use Rattle.least_cost.proofs.trails.add_whole.Given as goal

-- the steps of the places so far are added
abbrev pub invariant-loop-place : goal.invariant-loop-place
invariant-loop-place l = l.steps.items
    ≡ l.fn.steps.items ++ flat_map (steps_at l.visits) (take l.place-index l.places)
