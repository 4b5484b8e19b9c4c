use Rattle.std.proofs.Common.{◌≡◌, take}
use Rattle.road_model.proofs.lists.Sources.copy.Given as goal

abbrev pub invariant-loop-item : goal.invariant-loop-item
invariant-loop-item l = l.list.items ≡ take l.item-index l.from
