-- The lines that are put, each with its newline.
use Rattle.std.specs.Prelude.{◌++◌, ℕ, List, [], ◌∷◌, codes, length}
use Rattle.std.specs.List.{flat_map}
use Rattle.std.specs.Fmt.{decimal, signed_decimal}
use Rattle.road_base.specs.declared.ids.WayId.{WayId}
use Rattle.road_base.specs.declared.ids.Key.{Key}
use Rattle.road_base.specs.declared.ids.Key.TheVariants.{Node, Way, Relation}
use Rattle.opl_lexer.specs.Letters.{newline}
use Rattle.map_cells.specs.declared.area.Area.{Area}
use Rattle.cell_check.specs.declared.checking.Failing.{Failing}
use Rattle.cell_plan.specs.declared.cells.PlannedCell.{PlannedCell}

abbrev pub usage_line : List ℕ
usage_line = codes "usage: cells plan NODES [METRES]|part BOX CELL [2]|rest BOX CELL|cell BOX CELL [2]|"
    ++ (codes "ways PROFILE WAY..|range FROM TO|merge" ++ newline ∷ [])

-- the graph of this number, counted from 1, isn't one, or is of another version or profile than the first
abbrev pub refused_graph_line : ℕ → List ℕ
refused_graph_line k = codes "refused graph " ++ (decimal k ++ newline ∷ [])

-- the way has a block in two graphs
abbrev pub refused_way_line : WayId → List ℕ
refused_way_line w = codes "refused way " ++ (signed_decimal w.0 ++ newline ∷ [])

-- `WEST,SOUTH,EAST,NORTH`, in units of 1e-7 degree
abbrev pub area_text : Area → List ℕ
area_text a = signed_decimal a.west
    ++ (codes "," ++ (signed_decimal a.south ++ (codes ","
    ++ (signed_decimal a.east ++ (codes "," ++ signed_decimal a.north)))))

-- `CELL BOX COUNT`: the cell, the area that is cut for it, and how many nodes lie in the cell
abbrev pub cell_line : PlannedCell → List ℕ
cell_line c = area_text c.cell ++ (codes " " ++ (area_text c.grown ++ (codes " " ++ (decimal c.count ++ newline ∷ []))))

-- `n34`, `w12` or `r56`
abbrev pub key_text : Key → List ℕ
key_text (Node n) = codes "n" ++ signed_decimal n.0
key_text (Way w) = codes "w" ++ signed_decimal w.0
key_text (Relation r) = codes "r" ++ signed_decimal r.0

-- `w12 n34`: a way that fails, and the key near it that isn't closed
abbrev pub failing_line : Failing → List ℕ
failing_line f = codes "w" ++ (signed_decimal f.way.0 ++ (codes " " ++ (key_text f.key ++ newline ∷ [])))

-- `w12`: a way that passes
abbrev pub passing_line : WayId → List ℕ
passing_line w = codes "w" ++ (signed_decimal w.0 ++ newline ∷ [])

-- `NODES PASSING FAILING`: how many nodes lie in the cell, and how many of its own ways pass, and fail
abbrev pub counts_line : ℕ → ℕ → ℕ → List ℕ
counts_line nodes passing failing =
    decimal nodes ++ (codes " " ++ (decimal passing ++ (codes " " ++ (decimal failing ++ newline ∷ []))))

-- a line for each own way that passes, one for each that fails, and at last how many there are
abbrev pub report_lines : ℕ → List WayId → List Failing → List ℕ
report_lines nodes passing failing = flat_map passing_line passing
    ++ (flat_map failing_line failing ++ counts_line nodes (length passing) (length failing))
