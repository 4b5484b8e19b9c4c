-- The sample of a town: how large the graphs are to which its lists of events lead, one list after another.
use Rattle.std.specs.Prelude.{◌≡◌, ℕ, zero, suc, List, [], ◌++◌, length}
use Rattle.std.specs.FinMap.{empty}
use Rattle.road_base.specs.declared.event.Event.{Event}
use Rattle.road_base.specs.Objects.{Objects}
use Rattle.road_base.specs.Applying.{IsApplied}
use Rattle.road_model.specs.declared.blocks.Block.{Block}
use Rattle.road_model.specs.Format.{IsGraph}
use Rattle.road_model.specs.Rules.{Rules}
use Rattle.graph_file.specs.GraphReading.{IsFile}
use Rattle.drive_queries.specs.Counting.{totals_of}
use Rattle.sample_town.specs.Lists.{Progress, next_list}
use Rattle.osmroad.specs.Texts.{sample_line}

-- the events of the first so many lists of the town: its base, and then its changes
abbrev pub events_of_lists : ℕ → ℕ → List Event
events_of_lists n zero = []
events_of_lists n (suc count) = events_of_lists n count ++ next_list (record { number = n; given = count })

-- The line of change q: the graph is the rules' graph of the objects that the events leave, the blocks are those that
-- its
-- bytes spell, and the line says how many of each there are, and how many bytes.
pub record IsSampleLine (P : Rules) (q : ℕ) (events : List Event) (line : List ℕ) : Type 0 where
  pub objects : Objects
  pub applied : IsApplied empty events objects
  pub graph : List ℕ
  pub is : IsGraph objects P graph
  pub blocks : List Block
  pub file : IsFile 2 P.number graph blocks
  pub spelled : line ≡ sample_line q (totals_of blocks) (length graph)

-- the lines of the first so many lists: that of the base, which is change 0, and then those of the changes
abbrev pub AreSampleLines : Rules → ℕ → ℕ → List ℕ → Type 0
AreSampleLines P n zero text = text ≡ []
AreSampleLines P n (suc count) text = (front : List ℕ) × (line : List ℕ)
    × AreSampleLines P n count front
    × IsSampleLine P count (events_of_lists n (suc count)) line
    × (text ≡ front ++ line)

-- the lines of the base and of the ten changes
pub record IsSample (P : Rules) (n : ℕ) (text : List ℕ) : Type 0 where
  pub lines : AreSampleLines P n 11 text

-- this town gave so many lists, which lead to these objects, and these are their lines
pub record Led (P : Rules) (n count : ℕ) (town : Progress) (world : Objects) (text : List ℕ) : Type 0 where
  pub town_is : town ≡ record { number = n; given = count }
  pub applied : IsApplied empty (events_of_lists n count) world
  pub lines : AreSampleLines P n count text
