use Rattle.std.proofs.Common.{◌≡◌, take}
use Rattle.road_base.proofs.objects.copied_members.Given as goal

abbrev pub invariant-loop-member : goal.invariant-loop-member
invariant-loop-member l = l.list.items ≡ take l.member-index l.members
