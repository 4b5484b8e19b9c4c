use Rattle.std.proofs.Common.{◌≡◌, map, take}
use Rattle.way_pieces.specs.Stops.{stop_on}
use Rattle.way_pieces.proofs.stops.stops_of.Given as goal

-- the ends so far
abbrev pub invariant-loop-span : goal.invariant-loop-span
invariant-loop-span l = l.stops.items ≡ map (stop_on l.nodes) (take l.span-index l.spans)
