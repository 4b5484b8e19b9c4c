-- What is known of places while they are counted.
use Rattle.std.specs.Prelude.{List}
use Rattle.road_base.specs.declared.event.Event.{Event}
use Rattle.cell_plan.specs.CountedPlaces.{HasCounted}
use Rattle.cells.specs.declared.plan.PlaceCounter.{PlaceCounter}
use Rattle.cells.specs.Made.{places_of}

-- the places of these events were counted
abbrev pub CountsPlaces : PlaceCounter → List Event → Type 0
CountsPlaces counter events = HasCounted (places_of events) counter.counts
