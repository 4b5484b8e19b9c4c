-- What the words of a run ask.
use Rattle.std.specs.Prelude.{ℕ, ℤ, ◌*◌, ◌^◌, List, [], ◌∷◌, Option, Some, None, cond, ◌&&◌}
use Rattle.std.specs.Prelude.{bytes_eq, codes, if◌then◌else◌}
use Rattle.std.specs.Option.{option_and_then, option_map}
use Rattle.road_base.specs.declared.ids.WayId.{WayId}
use Rattle.road_base.specs.Ranges.{is_in_range}
use Rattle.opl_lexer.specs.Letters.{comma}
use Rattle.opl_lexer.specs.Parts.{parts}
use Rattle.opl_lexer.specs.Numbers.{number_below, whole_of}
use Rattle.ordered_lists.specs.Orders.{rises}
use Rattle.road_model.specs.Orders.{way_cmp}
use Rattle.map_cells.specs.declared.area.Area.{Area}
use Rattle.cell_plan.specs.declared.cells.PlanRule.{PlanRule}
use Rattle.cells.specs.declared.command.CutCell.{CutCell}
use Rattle.cells.specs.declared.command.ProfiledCell.{ProfiledCell}
use Rattle.cells.specs.declared.command.ProfileNumber.{ProfileNumber}
use Rattle.cells.specs.declared.command.ProfileNumber.TheVariants.{First, Second}
use Rattle.cells.specs.declared.command.MapCommand.TheVariants.{Part, Rest, Cell, Ways}
use Rattle.cells.specs.declared.command.GraphCommand.TheVariants.{Range, Merge}
use Rattle.cells.specs.declared.command.Command.{Command}
use Rattle.cells.specs.declared.command.Command.TheVariants.{Plan, Map, Graphs}

-- ---- words

-- four whole numbers, the edges of an area of the world
abbrev pub area_between : ℤ → ℤ → ℤ → ℤ → Option Area
area_between w s e n =
    cond (is_in_range w s && is_in_range e n) (Some (record { west = w; south = s; east = e; north = n })) None

abbrev pub area_of_parts : List (List ℕ) → Option Area
area_of_parts [] = None
area_of_parts (one ∷ []) = None
area_of_parts (one ∷ two ∷ []) = None
area_of_parts (one ∷ two ∷ three ∷ []) = None
area_of_parts (west ∷ south ∷ east ∷ north ∷ []) =
    option_and_then (λ w. option_and_then (λ s. option_and_then (λ e. option_and_then (area_between w s e)
    (whole_of north)) (whole_of east)) (whole_of south)) (whole_of west)
area_of_parts (one ∷ two ∷ three ∷ four ∷ five ∷ more) = None

-- `WEST,SOUTH,EAST,NORTH`, whole numbers of 1e-7 degree within the world
abbrev pub area_of : List ℕ → Option Area
area_of word = area_of_parts (parts comma word)

-- the area that was cut, and the cell
abbrev pub cut_cell_of : List ℕ → List ℕ → Option CutCell
cut_cell_of box cell =
    option_and_then (λ a. option_map (λ c. record { area = a; cell = c }) (area_of cell)) (area_of box)

-- the number of a profile
abbrev pub profile_of : List ℕ → Option ProfileNumber
profile_of word = if bytes_eq word (codes "1") then Some First
    else (if bytes_eq word (codes "2") then Some Second else None)

-- the number is one digit or more, a value of 64 bits
abbrev pub count_of : List ℕ → Option ℕ
count_of word = number_below (2 ^ 64) word

-- a margin of at most 1,000,000 metres
abbrev pub metres_of : List ℕ → Option ℕ
metres_of word = number_below 1000001 word

abbrev pub way_of_word : List ℕ → Option WayId
way_of_word word = option_map (λ n. record { 0 = n }) (whole_of word)

-- the numbers of the ways, where each word is one
abbrev pub each_way : List (List ℕ) → Option (List WayId)
each_way [] = Some []
each_way (word ∷ words) = option_and_then (λ w. option_map (λ ways. w ∷ ways) (each_way words)) (way_of_word word)

-- at least one, each below the next
abbrev pub some_ascending : List WayId → Option (List WayId)
some_ascending [] = None
some_ascending (w ∷ ws) = cond (rises way_cmp (w ∷ ws)) (Some (w ∷ ws)) None

abbrev pub ways_of : List (List ℕ) → Option (List WayId)
ways_of words = option_and_then some_ascending (each_way words)

-- ---- commands

-- how many nodes a grown cell may have before it is divided, and by how many metres a cell is grown at least; a metre
-- of latitude has 91 units of 1e-7 degree or less
abbrev pub rule_of : ℕ → ℕ → PlanRule
rule_of nodes metres = record { most = nodes; margin = metres * 91 }

abbrev pub plan_within : List ℕ → ℕ → Option Command
plan_within nodes metres = option_map (λ n. Plan (rule_of n metres)) (count_of nodes)

abbrev pub asked_plan : List (List ℕ) → Option Command
asked_plan [] = None
asked_plan (nodes ∷ []) = plan_within nodes 3000
asked_plan (nodes ∷ metres ∷ []) = option_and_then (plan_within nodes) (metres_of metres)
asked_plan (one ∷ two ∷ three ∷ more) = None

abbrev pub cut_under : List ℕ → List ℕ → ProfileNumber → Option ProfiledCell
cut_under box cell number = option_map (λ c. record { cut = c; profile = number }) (cut_cell_of box cell)

-- under another profile than 1; its number is the one word `2`
abbrev pub cut_under_second : List ℕ → List ℕ → List ℕ → Option ProfiledCell
cut_under_second box cell number = if bytes_eq number (codes "2") then cut_under box cell Second else None

-- `BOX CELL [2]`
abbrev pub profiled_cell_of : List (List ℕ) → Option ProfiledCell
profiled_cell_of [] = None
profiled_cell_of (box ∷ []) = None
profiled_cell_of (box ∷ cell ∷ []) = cut_under box cell First
profiled_cell_of (box ∷ cell ∷ number ∷ []) = cut_under_second box cell number
profiled_cell_of (one ∷ two ∷ three ∷ four ∷ more) = None

abbrev pub asked_part : List (List ℕ) → Option Command
asked_part words = option_map (λ c. Map (Part c.cut c.profile)) (profiled_cell_of words)

abbrev pub asked_cell : List (List ℕ) → Option Command
asked_cell words = option_map (λ c. Map (Cell c.cut c.profile)) (profiled_cell_of words)

abbrev pub asked_rest : List (List ℕ) → Option Command
asked_rest [] = None
asked_rest (box ∷ []) = None
asked_rest (box ∷ cell ∷ []) = option_map (λ cut. Map (Rest cut)) (cut_cell_of box cell)
asked_rest (one ∷ two ∷ three ∷ more) = None

abbrev pub asked_ways : List (List ℕ) → Option Command
asked_ways [] = None
asked_ways (number ∷ words) =
    option_and_then (λ n. option_map (λ ways. Map (Ways n ways)) (ways_of words)) (profile_of number)

abbrev pub range_between : List ℕ → List ℕ → Option Command
range_between from to =
    option_and_then (λ f. option_map (λ t. Graphs (Range f t)) (way_of_word to)) (way_of_word from)

abbrev pub asked_range : List (List ℕ) → Option Command
asked_range [] = None
asked_range (from ∷ []) = None
asked_range (from ∷ to ∷ []) = range_between from to
asked_range (one ∷ two ∷ three ∷ more) = None

abbrev pub asked_merge : List (List ℕ) → Option Command
asked_merge [] = Some (Graphs Merge)
asked_merge (one ∷ more) = None

-- by the command's name, but for `ways`
abbrev pub asked_by : List ℕ → List (List ℕ) → Option Command
asked_by name words =
    if bytes_eq name (codes "plan") then asked_plan words
    else (if bytes_eq name (codes "part") then asked_part words
    else (if bytes_eq name (codes "rest") then asked_rest words
    else (if bytes_eq name (codes "cell") then asked_cell words
    else (if bytes_eq name (codes "range") then asked_range words
    else (if bytes_eq name (codes "merge") then asked_merge words else None)))))

-- `plan NODES [METRES]`, `part BOX CELL [2]`, `rest BOX CELL`, `cell BOX CELL [2]`, `ways PROFILE WAY..`,
-- `range FROM TO` and `merge`; other words are no command's
abbrev pub asked : List (List ℕ) → Option Command
asked [] = None
asked (name ∷ words) = if bytes_eq name (codes "ways") then asked_ways words else asked_by name words

-- the number that a profile has
abbrev pub number_of : ProfileNumber → ℕ
number_of First = 1
number_of Second = 2
