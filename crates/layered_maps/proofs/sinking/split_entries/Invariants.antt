use Rattle.std.proofs.Common.{◌≡◌, map, take, filter}
use Rattle.layered_maps.specs.Layers.{pair}
use Rattle.layered_maps.specs.Maps.{stays, sunk}
use Rattle.layered_maps.proofs.sinking.split_entries.Given as goal

abbrev pub invariant-loop-entry : goal.invariant-loop-entry
invariant-loop-entry g l =
    (map pair l.rest.items
    ≡ filter (stays g.K.Ord.cmp l.layers l.floor) (map pair (take l.entry-index l.entries)))
    × (l.values.items ≡ sunk g.K.Ord.cmp l.layers l.floor (map pair (take l.entry-index l.entries)))
