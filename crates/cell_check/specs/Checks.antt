-- Which of a cell's own ways don't pass, and why.
use Rattle.std.specs.Prelude.{List, IsTrue, Contains, map}
use Rattle.road_base.specs.declared.ids.WayId.{WayId}
use Rattle.road_base.specs.declared.ids.Key.TheVariants.{Way as WayKey}
use Rattle.road_base.specs.Objects.{Objects}
use Rattle.road_model.specs.Links.{IsWithin}
use Rattle.road_model.specs.Orders.{way_cmp}
use Rattle.ordered_lists.specs.Orders.{rises}
use Rattle.map_cells.specs.declared.area.Area.{Area}
use Rattle.map_cells.specs.Cells.{IsClosed, Passes, closed_radius}
use Rattle.map_cells.specs.Owners.{IsOwn}
use Rattle.cell_check.specs.declared.checking.Failing.{Failing}

-- the cell owns the way, and the key within the closed radius of it isn't closed
pub record IsFailing (M : Objects) (area cell : Area) (f : Failing) : Type 0 where
  pub own : IsOwn M cell f.way
  pub near : IsWithin M closed_radius f.key (WayKey f.way)
  pub is_open : IsClosed M area f.key → ⊥

-- all own ways of the cell that don't pass, ascending
pub record AreFailing (M : Objects) (area cell : Area) (list : List Failing) : Type 0 where
  pub ascending : IsTrue (rises way_cmp (map (λ f. f.way) list))
  pub each : (f : Failing) → Contains list f → IsFailing M area cell f
  pub all : (w : WayId) → IsOwn M cell w → (Passes M area w → ⊥) → Contains (map (λ f. f.way) list) w
