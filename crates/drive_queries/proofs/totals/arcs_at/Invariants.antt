use Rattle.std.proofs.Common.{◌≡◌, take}
use Rattle.drive_queries.specs.Counting.{counted}
use Rattle.drive_queries.specs.Summing.{arcs_at}
use Rattle.drive_queries.proofs.totals.arcs_at.Given as goal

-- those so far are counted
abbrev pub invariant-loop-context : goal.invariant-loop-context
invariant-loop-context l = l.sum ≡ counted (arcs_at (take l.context-index l.contexts))
