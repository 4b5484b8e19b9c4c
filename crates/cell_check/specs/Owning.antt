-- Whether a cell owns a way, decided.
use Rattle.std.specs.Prelude.{Bool, false, ◌&&◌, List, Option, Some, None, filter}
use Rattle.std.specs.Option.{option_to_list}
use Rattle.road_base.specs.declared.ids.WayId.{WayId}
use Rattle.road_base.specs.declared.location.Location.{Location}
use Rattle.road_base.specs.declared.objects.Way.{Way}
use Rattle.road_base.specs.declared.event.Event.{Event}
use Rattle.road_base.specs.Objects.{Objects, way_of}
use Rattle.road_model.specs.Rules.{has_highway}
use Rattle.road_model.specs.Highways.{highway_of}
use Rattle.map_cells.specs.declared.area.Area.{Area}
use Rattle.map_cells.specs.Areas.{is_in}
use Rattle.map_cells.specs.Owners.{first_place}

-- there is a place, and it lies in the cell
abbrev pub lies_in : Area → Option Location → Bool
lies_in cell None = false
lies_in cell (Some place) = is_in cell place

-- there is a way, it has the key `highway`, and its first located node lies in the cell
abbrev pub owns_body : Objects → Area → Option Way → Bool
owns_body M cell None = false
owns_body M cell (Some body) = has_highway body.tags && lies_in cell (first_place M body.refs)

-- the same of the way of a number
abbrev pub owns : Objects → Area → WayId → Bool
owns M cell w = owns_body M cell (way_of M w)

-- the way of the entry, if it is a visible highway that the cell owns
abbrev pub owned_by : Objects → Area → Event → List WayId
owned_by M cell e = filter (owns M cell) (option_to_list (highway_of e.key e.body))
