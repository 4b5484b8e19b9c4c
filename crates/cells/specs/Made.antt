-- What is made of a map, or of a cell of one.
use Rattle.std.specs.Prelude.{◌≡◌, ℕ, List, ◌++◌, ◌∷◌, Option, None, map, Contains}
use Rattle.std.specs.List.{flat_map, filter_map}
use Rattle.std.specs.FinMap.{empty}
use Rattle.road_base.specs.declared.event.Event.{Event}
use Rattle.road_base.specs.declared.ids.WayId.{WayId}
use Rattle.road_base.specs.declared.location.Location.{Location}
use Rattle.road_base.specs.declared.objects.Body.{Body}
use Rattle.road_base.specs.declared.objects.Body.TheVariants.{Node, Way, Relation, Deleted}
use Rattle.road_base.specs.Objects.{Objects}
use Rattle.road_base.specs.Applying.{IsApplied}
use Rattle.ordered_lists.specs.Orders.{Lists}
use Rattle.opl_lexer.specs.Letters.{newline}
use Rattle.road_model.specs.Orders.{way_cmp}
use Rattle.road_model.specs.Rules.{Rules}
use Rattle.compiled_graph.specs.Building.{HasBlocksAmong}
use Rattle.map_cells.specs.Areas.{CoverWorld}
use Rattle.map_cells.specs.Cells.{IsCell, Passes, IsCut}
use Rattle.map_cells.specs.Owners.{IsOwn}
use Rattle.cell_check.specs.declared.checking.Failing.{Failing}
use Rattle.cell_check.specs.Checks.{AreFailing}
use Rattle.cell_plan.specs.declared.cells.PlanRule.{PlanRule}
use Rattle.cell_plan.specs.declared.cells.PlannedCell.{PlannedCell}
use Rattle.cell_plan.specs.CellPlans.{IsGrown, IsCounted, places_in}
use Rattle.cells.specs.declared.command.CutCell.{CutCell}
use Rattle.cells.specs.Texts.{cell_line, failing_line, report_lines}

-- ---- places

-- where the body is, if it is a located node's
abbrev pub place_of : Body → Option Location
place_of (Node n) = n.location
place_of (Way w) = None
place_of (Relation r) = None
place_of Deleted = None

-- the places of the visible located nodes, in the order in which they come
abbrev pub places_of : List Event → List Location
places_of events = filter_map (λ e. place_of e.body) events

-- ---- parts

-- the way is the cell's own, and all near it is closed
abbrev pub IsOwnPassing : Objects → CutCell → WayId → Type 0
IsOwnPassing objects cut w = IsOwn objects cut.cell w × Passes objects cut.area w

-- The graph of the own ways that pass, of the objects that the events leave. Whatever map these objects are the cell
-- of, for the area that was cut, the blocks are the map's.
pub record IsPart (cut : CutCell) (P : Rules) (events : List Event) (out : List ℕ) : Type 0 where
  pub objects : Objects
  pub applied : IsApplied empty events objects
  pub ways : List WayId
  pub listed : Lists (λ w. w) way_cmp (IsOwnPassing objects cut) ways
  pub blocks : HasBlocksAmong objects P ways out
  pub whole : (M : Objects) → IsCell M objects cut.area → HasBlocksAmong M P ways out

-- a line for each own way that fails, with a key near it that isn't closed
pub record IsRestOf (cut : CutCell) (events : List Event) (out : List ℕ) : Type 0 where
  pub objects : Objects
  pub applied : IsApplied empty events objects
  pub failing : List Failing
  pub are : AreFailing objects cut.area cut.cell failing
  pub spelled : out ≡ flat_map failing_line failing

-- The graph of the own ways that pass, behind it a newline, and then a line for each of these, one for each own way
-- that fails, and at last how many nodes lie in the cell, and how many ways pass and fail.
pub record IsReport (cut : CutCell) (P : Rules) (events : List Event) (out : List ℕ) : Type 0 where
  pub graph : List ℕ
  pub part : IsPart cut P events graph
  pub lines : List ℕ
  pub rest : IsRestOf cut events lines
  pub spelled : out ≡ graph ++ newline ∷ report_lines (places_in cut.cell (places_of events)) part.ways rest.failing

-- The graph of these ways, of the objects that the events leave. Whatever map these objects are cut from by links, for
-- each of these ways, the blocks are the map's.
pub record IsOfWays (P : Rules) (ways : List WayId) (events : List Event) (out : List ℕ) : Type 0 where
  pub objects : Objects
  pub applied : IsApplied empty events objects
  pub blocks : HasBlocksAmong objects P ways out
  pub whole : (M : Objects) → ((w : WayId) → Contains ways w → IsCut M objects w) → HasBlocksAmong M P ways out

-- ---- a plan

-- A line for each cell. The cells cover the world and don't overlap. Each has its number of nodes, is grown by the
-- margin, and is divided as the rule says, down to squares of the grid in which the nodes were counted.
pub record IsPlan (rule : PlanRule) (events : List Event) (out : List ℕ) : Type 0 where
  pub cells : List PlannedCell
  pub cover : CoverWorld (map (λ c. c.cell) cells)
  pub grown : (c : PlannedCell) → Contains cells c → IsGrown rule.margin c.cell c.grown
  pub side : ℕ
  pub counted : (c : PlannedCell) → Contains cells c → IsCounted rule side (places_of events) c
  pub spelled : out ≡ flat_map cell_line cells
