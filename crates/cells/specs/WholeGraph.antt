-- A map that is compiled cell by cell, by runs of this program.
use Rattle.std.specs.Prelude.{◌≡◌, ◌⊎◌, ℕ, nat_lt, List, ◌++◌, ◌∷◌, map, Some, Contains}
use Rattle.std.specs.List.{flat_map, filter}
use Rattle.std.specs.FinMap.{empty}
use Rattle.road_base.specs.declared.event.Event.{Event}
use Rattle.road_base.specs.declared.ids.NodeId.{NodeId}
use Rattle.road_base.specs.declared.ids.WayId.{WayId}
use Rattle.road_base.specs.declared.ids.Key.TheVariants.{Node as NodeKey}
use Rattle.road_base.specs.declared.objects.Node.{Node}
use Rattle.road_base.specs.Objects.{Objects, node_of}
use Rattle.road_base.specs.Applying.{IsApplied}
use Rattle.road_model.specs.Rules.{Rules}
use Rattle.road_model.specs.Format.{IsGraph}
use Rattle.graph_file.specs.WalkedFiles.{IsWalkedFile}
use Rattle.opl_lexer.specs.Letters.{newline}
use Rattle.opl_lexer.specs.declared.mode.Mode.TheVariants.{Extract}
use Rattle.opl_lexer.specs.Reading.{ReadAll}
use Rattle.map_cells.specs.Areas.{IsInside, CoverNodes}
use Rattle.map_cells.specs.Cells.{IsCell, IsCut, Keeps}
use Rattle.cell_check.specs.declared.checking.Failing.{Failing}
use Rattle.cell_plan.specs.declared.cells.PlannedCell.{PlannedCell}
use Rattle.last_words.specs.declared.status.Status.TheVariants.{Done}
use Rattle.cells.specs.declared.command.CutCell.{CutCell}
use Rattle.cells.specs.declared.command.ProfileNumber.{ProfileNumber}
use Rattle.cells.specs.declared.command.MapCommand.TheVariants.{Part, Rest, Ways}
use Rattle.cells.specs.declared.command.Command.TheVariants.{Map}
use Rattle.cells.specs.Texts.{cell_line, failing_line, report_lines}
use Rattle.cells.specs.Outcomes.{Gives}

-- the objects that a text holds
pub record AreObjectsOf (text : List ℕ) (objects : Objects) : Type 0 where
  pub events : List Event
  pub read : ReadAll Extract text events
  pub applied : IsApplied empty events objects

-- ---- the cells

-- the text holds the visible nodes of M, unchanged
abbrev pub HasNodesOf : Objects → List ℕ → Type 0
HasNodesOf M text = (objects : Objects) (n : NodeId) (body : Node) → AreObjectsOf text objects
    → node_of M n ≡ Some body → Keeps M objects (NodeKey n)

-- The lines are those of cells, each of which lies in the area that is cut for it. Each located node of M lies in one
-- of those that have nodes, which don't overlap: the others needn't be compiled.
pub record ArePlannedFor (M : Objects) (lines : List ℕ) : Type 0 where
  pub cells : List PlannedCell
  pub spelled : lines ≡ flat_map cell_line cells
  pub inside : (c : PlannedCell) → Contains cells c → IsInside c.cell c.grown
  pub cover : CoverNodes M (map (λ c. c.cell) (filter (λ c. nat_lt 0 c.count) cells))

-- ---- what is compiled

-- a cell that was compiled: the area that was cut and the cell, the text of what was cut, the graph that `part` put for
-- it, and the lines that `rest` put for it
pub record CompiledCell : Type 0 where
  pub cut : CutCell
  pub text : List ℕ
  pub graph : List ℕ
  pub rest : List ℕ

-- The cell lies in the area, the text holds what an extract of the area keeps of M, and `part` and `rest` put these for
-- it.
pub record IsCompiledCell (M : Objects) (profile : ProfileNumber) (c : CompiledCell) : Type 0 where
  pub inside : IsInside c.cut.cell c.cut.area
  pub kept : (objects : Objects) → AreObjectsOf c.text objects → IsCell M objects c.cut.area
  pub part : Gives (Some (Map (Part c.cut profile))) c.text Done c.graph
  pub rest : Gives (Some (Map (Rest c.cut))) c.text Done c.rest

-- What `cell` put for a text has what `part` puts for it, and then, behind a newline, a line for each of some ways,
-- what `rest` puts, and a line of three counts.
pub record HasPartAndRest (cut : CutCell) (profile : ProfileNumber) (text out : List ℕ) : Type 0 where
  pub graph : List ℕ
  pub part : Gives (Some (Map (Part cut profile))) text Done graph
  pub passing : List WayId
  pub failing : List Failing
  pub rest : Gives (Some (Map (Rest cut))) text Done (flat_map failing_line failing)
  pub nodes : ℕ
  pub spelled : out ≡ graph ++ newline ∷ report_lines nodes passing failing

-- ways that were cut out by links: their numbers, the text of what was cut, and the graph that `ways` put for it
pub record CompiledWays : Type 0 where
  pub ways : List WayId
  pub text : List ℕ
  pub graph : List ℕ

-- the text holds all that is within the link radius of each of the ways in M, unchanged, and `ways` put this for it
pub record AreCompiledWays (M : Objects) (profile : ProfileNumber) (c : CompiledWays) : Type 0 where
  pub kept : (objects : Objects) (w : WayId) → AreObjectsOf c.text objects → Contains c.ways w → IsCut M objects w
  pub made : Gives (Some (Map (Ways profile c.ways))) c.text Done c.graph

-- the lines name the way
abbrev pub IsNamed : List ℕ → WayId → Type 0
IsNamed lines w = (failing : List Failing) × (lines ≡ flat_map failing_line failing)
    × Contains (map (λ f. f.way) failing) w

-- M was compiled so: each of its located nodes lies in one of the cells, which don't overlap, each cell was compiled,
-- and each way that the lines of `rest` name was cut out by links and compiled.
pub record IsCompiledInCells (M : Objects) (profile : ProfileNumber) (cells : List CompiledCell)
    (cuts : List CompiledWays) : Type 0 where
  pub cover : CoverNodes M (map (λ c. c.cut.cell) cells)
  pub each : (c : CompiledCell) → Contains cells c → IsCompiledCell M profile c
  pub cut_out : (c : CompiledWays) → Contains cuts c → AreCompiledWays M profile c
  pub named : (c : CompiledCell) (w : WayId) → Contains cells c → IsNamed c.rest w
      → (d : CompiledWays) × Contains cuts d × Contains d.ways w

-- the graph is that of one of the cells, or of one of the cuts
abbrev pub IsGraphAmong : List CompiledCell → List CompiledWays → List ℕ → Type 0
IsGraphAmong cells cuts graph = ((c : CompiledCell) × Contains cells c × (graph ≡ c.graph))
    ⊎ ((d : CompiledWays) × Contains cuts d × (graph ≡ d.graph))

-- these are the graphs of all cells and of all cuts, in any order
pub record AreAllGraphs (cells : List CompiledCell) (cuts : List CompiledWays) (graphs : List (List ℕ)) : Type 0 where
  pub each : (graph : List ℕ) → Contains graphs graph → IsGraphAmong cells cuts graph
  pub of_cells : (c : CompiledCell) → Contains cells c → Contains graphs c.graph
  pub of_cuts : (d : CompiledWays) → Contains cuts d → Contains graphs d.graph

-- the bytes are the map's graph, and whoever reads them by the grammar walks over the map
pub record IsWholeGraph (M : Objects) (P : Rules) (out : List ℕ) : Type 0 where
  pub graph : IsGraph M P out
  pub walks : IsWalkedFile M P out
