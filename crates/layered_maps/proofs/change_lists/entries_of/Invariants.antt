use Rattle.std.proofs.Common.{◌≡◌, ◌++◌, map}
use Rattle.layered_maps.specs.Layers.{pair}
use Rattle.layered_maps.specs.Maps.{change_pair}
use Rattle.layered_maps.proofs.change_lists.entries_of.Given as goal

-- the entries so far, with the changes that are left, are all changes
abbrev pub invariant-loop-change : goal.invariant-loop-change
invariant-loop-change g l =
    map pair l.entries.items ++ map (change_pair g.V.Keyed.key) l.change-iterator.rest.items
    ≡ map (change_pair g.V.Keyed.key) l.fn.changes.items
