-- A way that a car may drive carries the key `highway`, whatever decides on access.
use Rattle.std.specs.Prelude.{ℕ, List, Option, Some, None, Bool, true, false, cond, IsTrue, is_some, codes}
use Rattle.std.specs.Prelude.{Result, Ok, Err, option_and_then, refl}
use Rattle.road_base.specs.declared.ids.Dir.{Dir}
use Rattle.road_base.specs.Tags.{TagList, value_of}
use Rattle.road_model.specs.declared.answers.ClosedBy.{ClosedBy}
use Rattle.road_model.specs.declared.answers.ClosedBy.TheVariants.{Area, Highway}
use Rattle.road_model.specs.Rules.{is_free, is_the_value, has_highway}
use Rattle.access_profile.specs.declared.highways.RoadClass.{RoadClass}
use Rattle.access_profile.specs.declared.decisions.Decision.{Decision}
use Rattle.access_profile.specs.Decisions.{decision_of}
use Rattle.access_profile.specs.Highways.{class_of, road_class}
use Rattle.access_profile.specs.Closing.{class_or_closed, closed_in_class, closed_or_oneway, direction_by, direction}

-- the class or what closes it, for any value of `highway` that a way may have
abbrev for_value : Bool → Option (List ℕ) → Result RoadClass ClosedBy
for_value area value = cond area (Err Area)
    (elim (option_and_then class_of value) [ Some class ↦ Ok class | None ↦ Err Highway ])

-- without the key, something closes it
carried : (tags : TagList) (d : Dir) (c : Option Decision) (area : Bool) (value : Option (List ℕ))
    → IsTrue (is_free (closed_or_oneway tags d
    (elim (for_value area value) [ Ok class ↦ closed_in_class class c | Err by ↦ Some by ])))
    → IsTrue (is_some value)
carried tags d c area (Some value) free = refl
carried tags d c true None free = free
carried tags d c false None free = free

-- whatever decides
pub highway_of_free_by : (tags : TagList) (d : Dir) (c : Option Decision)
    → IsTrue (is_free (direction_by tags d c)) → IsTrue (has_highway tags)
unfolding direction_by class_or_closed road_class
highway_of_free_by tags d c free =
    carried tags d c (is_the_value (codes "yes") (value_of (codes "area") tags)) (value_of (codes "highway") tags) free

pub highway_of_free : (tags : TagList) (d : Dir) → IsTrue (is_free (direction tags d)) → IsTrue (has_highway tags)
unfolding direction
highway_of_free tags d free = highway_of_free_by tags d (decision_of tags d) free
