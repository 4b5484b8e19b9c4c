use Rattle.std.proofs.Common.{◌≡◌, take}
use Rattle.drive_queries.specs.Counting.{counted, contexts_on}
use Rattle.drive_queries.proofs.totals.contexts_on.Given as goal

-- those so far are counted
abbrev pub invariant-loop-piece : goal.invariant-loop-piece
invariant-loop-piece l = l.sum ≡ counted (contexts_on (take l.piece-index l.pieces))
