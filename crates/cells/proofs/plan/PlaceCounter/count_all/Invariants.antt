use Rattle.std.proofs.Common.{take}
use Rattle.bounded_input.specs.Streaming.{TakesMore}
use Rattle.cells.specs.Planning.{CountsPlaces}
use Rattle.cells.proofs.plan.PlaceCounter.count_all.Given as goal

-- the events so far were taken
abbrev pub invariant-loop-event : goal.invariant-loop-event
invariant-loop-event l = TakesMore (CountsPlaces l.fn.self) (CountsPlaces l.self) (take l.event-index l.events)
