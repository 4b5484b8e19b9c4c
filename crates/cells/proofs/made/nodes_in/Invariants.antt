use Rattle.std.proofs.Common.{◌≡◌, ◌≤◌, take}
use Rattle.cell_plan.specs.CellPlans.{places_in}
use Rattle.cells.specs.Made.{places_of}
use Rattle.cells.proofs.made.nodes_in.Given as goal

-- the nodes so far are counted
abbrev pub invariant-loop-event : goal.invariant-loop-event
invariant-loop-event l =
    (l.count ≡ places_in l.area (places_of (take l.event-index l.events))) × (l.count ≤ l.event-index)
