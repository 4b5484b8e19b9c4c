-- How far it is at least from the last of some places to a location, by latitudes.
use Rattle.std.specs.Prelude.{ℕ, ◌-◌, List, length, Option, Some, None, slice_get, ◌-ℤ◌, unsigned_abs}
use Rattle.road_base.specs.declared.location.Location.{Location}
use Rattle.road_model.specs.declared.lists.Place.{Place}

abbrev pub latitudes_from : Option Place → Location → ℕ
latitudes_from None to = 0
latitudes_from (Some x) to = unsigned_abs (x.location.lat -ℤ to.lat)

-- the difference of latitudes between the last place and the location
abbrev pub latitudes_left : List Place → Location → ℕ
latitudes_left xs to = latitudes_from (slice_get xs (length xs - 1)) to
