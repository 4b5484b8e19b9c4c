use Rattle.std.proofs.Common.{◌≡◌, map, take}
use Rattle.way_pieces.specs.Starts.{start_on}
use Rattle.way_pieces.proofs.starts.starts_of.Given as goal

-- the starts so far
abbrev pub invariant-loop-span : goal.invariant-loop-span
invariant-loop-span l = l.starts.items ≡ map (start_on l.nodes) (take l.span-index l.spans)
