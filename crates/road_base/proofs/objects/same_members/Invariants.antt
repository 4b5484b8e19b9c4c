use Rattle.std.proofs.Common.{◌≡◌, take}
use Rattle.road_base.proofs.objects.same_members.Given as goal

abbrev pub invariant-loop-at : goal.invariant-loop-at
invariant-loop-at l = take l.at l.these ≡ take l.at l.those
