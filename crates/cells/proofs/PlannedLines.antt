-- The lines of a plan.
use Rattle.std.proofs.Common.{◌≡◌, ℕ, List, map}
use Rattle.std.specs.Prelude.{Contains}
use Rattle.std.specs.List.{flat_map}
use Rattle.road_base.specs.declared.event.Event.{Event}
use Rattle.map_cells.specs.Areas.{CoverWorld}
use Rattle.cell_plan.specs.declared.cells.PlanRule.{PlanRule}
use Rattle.cell_plan.specs.declared.cells.PlannedCell.{PlannedCell}
use Rattle.cell_plan.specs.CellPlans.{IsGrown, IsSmall, places_in}
use Rattle.cells.specs.Texts.{cell_line}
use Rattle.cells.specs.Made.{IsPlan, places_of}

pub is_plan : (rule : PlanRule) (events : List Event) (out : List ℕ) (cells : List PlannedCell) (side : ℕ)
    → CoverWorld (map (λ c. c.cell) cells)
    → ((c : PlannedCell) → Contains cells c → c.count ≡ places_in c.cell (places_of events))
    → ((c : PlannedCell) → Contains cells c → IsGrown rule.margin c.cell c.grown)
    → ((c : PlannedCell) → Contains cells c → IsSmall rule side (places_of events) c)
    → out ≡ flat_map cell_line cells → IsPlan rule events out
is_plan rule events out cells side cover counted grown small is = record {
  cells = cells;
  cover = cover;
  grown = grown;
  side = side;
  counted = λ c has. record { count = counted c has; small = small c has };
  spelled = is;
}
