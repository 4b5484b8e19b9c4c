-- Marks of pieces.
use Rattle.std.specs.Prelude.{◌≡◌, Bool}
use Rattle.road_base.specs.declared.ids.WayId.{WayId}
use Rattle.road_base.specs.declared.ids.Dir.{Dir}
use Rattle.road_base.specs.declared.ids.Dir.TheVariants.{Forward, Backward}
use Rattle.road_base.specs.Objects.{Objects}
use Rattle.road_model.specs.Rules.{Rules}
use Rattle.road_model.specs.Driving.{is_marked}
use Rattle.expanded_graph.specs.declared.marks.ZoneMarks.{ZoneMarks}

-- the mark in the direction
abbrev pub mark_in : ZoneMarks → Dir → Bool
mark_in m Forward = m.forward
mark_in m Backward = m.backward

-- the marks are those of the way's pieces
pub record AreMarks (M : Objects) (P : Rules) (w : WayId) (m : ZoneMarks) : Type 0 where
  pub forward : m.forward ≡ is_marked M P w Forward
  pub backward : m.backward ≡ is_marked M P w Backward
