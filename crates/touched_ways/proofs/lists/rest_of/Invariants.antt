use Rattle.std.proofs.Common.{◌≤◌, length, take}
use Rattle.touched_ways.specs.Searches.{IsRest}
use Rattle.touched_ways.proofs.lists.rest_of.Given as goal

-- the rest of the numbers so far, and the position is within those that are gone
abbrev pub invariant-loop-number : goal.invariant-loop-number
invariant-loop-number g l =
    IsRest (take l.number-index l.list) l.gone l.rest.items × (l.at ≤ length l.gone)
