use Rattle.std.proofs.Common.{◌≡◌, ◌-◌, drop}
use Rattle.road_base.specs.Tags.{is_ascending}
use Rattle.road_base.proofs.tags.Tags.are_ascending.Given as goal

-- the keys ascend where they do from the last one looked at on
abbrev pub invariant-loop-at : goal.invariant-loop-at
invariant-loop-at l = is_ascending l.list ≡ is_ascending (drop (l.at - 1) l.list)
