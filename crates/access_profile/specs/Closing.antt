-- Where a way may be driven by car, and what closes it where it may not (OSM wiki, Key:access).
use Rattle.std.specs.Prelude.{Option, Some, None, Result, Ok, Err, Bool, true, false, cond, codes}
use Rattle.road_base.specs.declared.ids.Dir.{Dir}
use Rattle.road_base.specs.Tags.{TagList, value_of}
use Rattle.road_model.specs.declared.answers.AccessKey.{AccessKey}
use Rattle.road_model.specs.declared.answers.AccessKey.TheVariants.{Motorcar, MotorVehicle, Vehicle}
use Rattle.road_model.specs.declared.answers.AccessKey.TheVariants.{Access as AccessTag}
use Rattle.road_model.specs.declared.answers.ClosedBy.{ClosedBy}
use Rattle.road_model.specs.declared.answers.ClosedBy.TheVariants.{Area, Highway, Deciding, Conditional}
use Rattle.road_model.specs.declared.answers.Access.{Access}
use Rattle.road_model.specs.declared.answers.Access.TheVariants.{Free, Closed, WrongWay}
use Rattle.road_model.specs.Rules.{is_the_value}
use Rattle.oneway_rules.specs.Oneway.{oneway_allows}
use Rattle.access_profile.specs.declared.highways.RoadClass.{RoadClass}
use Rattle.access_profile.specs.declared.highways.RoadClass.TheVariants.{ForCars, ForOthers}
use Rattle.access_profile.specs.declared.decisions.Permission.{Permission}
use Rattle.access_profile.specs.declared.decisions.Permission.TheVariants.{All, Destination, Nobody}
use Rattle.access_profile.specs.declared.decisions.Decision.{Decision}
use Rattle.access_profile.specs.Decisions.{decision_of}
use Rattle.access_profile.specs.Highways.{road_class}

abbrev pub is_for_motors : AccessKey → Bool
is_for_motors Motorcar = true
is_for_motors MotorVehicle = true
is_for_motors Vehicle = false
is_for_motors AccessTag = false

abbrev pub is_for_nobody : Permission → Bool
is_for_nobody All = false
is_for_nobody Destination = false
is_for_nobody Nobody = true

-- the key that decided, as what closes a way
abbrev pub named_by : Decision → ClosedBy
named_by c = cond c.conditional (Conditional c.name c.side) (Deciding c.name c.side)

-- the key that decided closes the way where its value lets nobody pass
abbrev pub closed_by_decision : Decision → Option ClosedBy
closed_by_decision c = cond (is_for_nobody c.permission) (Some (named_by c)) None

-- a way for cars is closed by its deciding key alone; one for others is closed unless that key is for motor vehicles
-- and lets a car pass
abbrev pub closed_in_class : RoadClass → Option Decision → Option ClosedBy
closed_in_class ForCars None = None
closed_in_class ForCars (Some c) = closed_by_decision c
closed_in_class ForOthers None = Some Highway
closed_in_class ForOthers (Some c) = cond (is_for_motors c.name) (closed_by_decision c) (Some Highway)

-- the class of a way, or what closes it whatever decides: an area is never driven along, nor is a way of neither class
unfoldable pub class_or_closed : TagList → Result RoadClass ClosedBy
class_or_closed tags =
    cond (is_the_value (codes "yes") (value_of (codes "area") tags)) (Err Area)
    (elim (road_class tags) [ Some class ↦ Ok class | None ↦ Err Highway ])

-- the key that closes a way, if one does, where this decides on access
abbrev pub closed_by : TagList → Option Decision → Option ClosedBy
closed_by tags c = elim (class_or_closed tags) [ Ok class ↦ closed_in_class class c | Err by ↦ Some by ]

-- closed by a key, or the wrong way where oneway doesn't allow the direction, or free
abbrev pub closed_or_oneway : TagList → Dir → Option ClosedBy → Access
closed_or_oneway tags d (Some by) = Closed by
closed_or_oneway tags d None = cond (oneway_allows tags d) Free WrongWay

-- whether the direction is open, where this decides on access
unfoldable pub direction_by : TagList → Dir → Option Decision → Access
direction_by tags d c = closed_or_oneway tags d (closed_by tags c)

-- whether it is open, where the deciding key of the tags decides
unfoldable pub direction : TagList → Dir → Access
direction tags d = direction_by tags d (decision_of tags d)
