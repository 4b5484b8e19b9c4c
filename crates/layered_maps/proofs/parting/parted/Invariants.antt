use Rattle.std.proofs.Common.{◌≡◌, ◌≤◌, ◌++◌, length}
use Rattle.layered_maps.specs.Layers.{values_of}
use Rattle.layered_maps.specs.PartLists.{AreWhole, joined}
use Rattle.layered_maps.proofs.parting.parted.Given as goal

-- the parts so far, with the last one and the items that are left, are the list
abbrev pub invariant-loop-item : goal.invariant-loop-item
invariant-loop-item g l =
    ((joined (values_of l.parts.items) ++ l.last.items) ++ l.item-iterator.rest.items ≡ l.fn.list.items)
    × AreWhole l.size (values_of l.parts.items) × (length l.last.items ≤ l.size)
