use Rattle.std.proofs.Common.{◌≡◌, take}
use Rattle.drive_queries.specs.Counting.{counted, arcs_on}
use Rattle.drive_queries.proofs.totals.arcs_on.Given as goal

-- those so far are counted
abbrev pub invariant-loop-piece : goal.invariant-loop-piece
invariant-loop-piece l = l.sum ≡ counted (arcs_on (take l.piece-index l.pieces))
