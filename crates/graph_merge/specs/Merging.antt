-- Graph files one behind another, and the one of all their blocks.
use Rattle.std.specs.Prelude.{◌≡◌, ℕ, ◌+◌, ◌<◌, ◌⊎◌, List, [], ◌++◌, length, Some, IsTrue, slice_get, Contains}
use Rattle.std.specs.List.{AllByRecursion}
use Rattle.std.specs.Ordering.{is_le}
use Rattle.road_base.specs.declared.ids.WayId.{WayId}
use Rattle.road_base.specs.Bytes.{joined}
use Rattle.road_model.specs.declared.blocks.Block.{Block}
use Rattle.road_model.specs.Orders.{way_cmp}
use Rattle.road_model.specs.Format.{graph_bytes, IsGraphFile}
use Rattle.ordered_lists.specs.Orders.{Lists}
use Rattle.graph_file.specs.GraphReading.{IsFile}
use Rattle.graph_merge.specs.declared.faults.MergeFault.{MergeFault}
use Rattle.graph_merge.specs.declared.faults.MergeFault.TheVariants.{Graph, Twice}
use Rattle.graph_merge.specs.declared.faults.MergeError.{MergeError}
use Rattle.graph_merge.specs.declared.faults.MergeError.TheVariants.{Fault, NoMemory}

-- each of them is the list of a graph file's blocks
abbrev pub AreFiles : ℕ → ℕ → List (List Block) → Type 0
AreFiles version profile files = AllByRecursion (λ bs. IsFile version profile (graph_bytes version profile bs) bs) files

-- the bytes are graph files with these blocks, all of this version and this profile, one behind the other, and one at
-- least
pub record AreGraphs (version profile : ℕ) (files : List (List Block)) (bytes : List ℕ) : Type 0 where
  pub some : files ≡ [] → ⊥
  pub each : AreFiles version profile files
  pub spelled : bytes ≡ joined (graph_bytes version profile) files

-- ---- the blocks of all files

-- the block stands in one of the files
pub record StandsIn (files : List (List Block)) (b : Block) : Type 0 where
  pub file : List Block
  pub listed : Contains files file
  pub stands : Contains file b

-- the file at the place has a block of the way
pub record HasWayAt (files : List (List Block)) (place : ℕ) (w : WayId) : Type 0 where
  pub file : List Block
  pub at : slice_get files place ≡ Some file
  pub block : Block
  pub stands : Contains file block
  pub way_is : block.way ≡ w

-- two of the files have a block of the way
pub record StandsTwice (files : List (List Block)) (w : WayId) : Type 0 where
  pub first : ℕ
  pub second : ℕ
  pub apart : first < second
  pub in_first : HasWayAt files first w
  pub in_second : HasWayAt files second w

-- the list has the blocks of all files and no others, ascending by way, and no way has a block in two of them
pub record IsMerge (files : List (List Block)) (blocks : List Block) : Type 0 where
  pub listed : Lists (λ b. b.way) way_cmp (StandsIn files) blocks
  pub once : (w : WayId) → StandsTwice files w → ⊥

-- what is put is one graph file, of the version and the profile of the graph files in the bytes, with the blocks of all
-- of them
pub record IsMerged (bytes out : List ℕ) : Type 0 where
  pub version : ℕ
  pub profile : ℕ
  pub files : List (List Block)
  pub blocks : List Block
  pub graphs : AreGraphs version profile files bytes
  pub merge : IsMerge files blocks
  pub file : IsFile version profile out blocks

-- the bytes are graph files of one version and one profile, and no way has a block in two of them
pub record IsMergeable (bytes : List ℕ) : Type 0 where
  pub version : ℕ
  pub profile : ℕ
  pub files : List (List Block)
  pub graphs : AreGraphs version profile files bytes
  pub once : (w : WayId) → StandsTwice files w → ⊥

-- ---- what isn't merged

-- the bytes begin with no graph file of either version
abbrev pub HasNoFront : List ℕ → Type 0
HasNoFront bytes = (front rest : List ℕ) → bytes ≡ front ++ rest → IsGraphFile front → ⊥

-- the bytes begin with so many graph files of one version and one profile, one at least; something stands behind them,
-- and it begins with no graph file of that version and that profile
pub record BreaksBehind (bytes : List ℕ) (count : ℕ) : Type 0 where
  pub version : ℕ
  pub profile : ℕ
  pub files : List (List Block)
  pub rest : List ℕ
  pub graphs : AreGraphs version profile files (joined (graph_bytes version profile) files)
  pub count_is : length files ≡ count
  pub parts : bytes ≡ joined (graph_bytes version profile) files ++ rest
  pub more : rest ≡ [] → ⊥
  pub none : (front behind : List ℕ) (bs : List Block) → rest ≡ front ++ behind → IsFile version profile front bs → ⊥

-- the graph file of this number, counted from one, isn't one, or is of another version or profile than the first
abbrev pub BreaksAt : List ℕ → ℕ → Type 0
BreaksAt bytes number = ((number ≡ 1) × HasNoFront bytes)
    ⊎ ((count : ℕ) × (number ≡ count + 1) × BreaksBehind bytes count)

-- the bytes are graph files, two of which have a block of the way, and no lesser way has blocks in two
pub record HasTwice (bytes : List ℕ) (w : WayId) : Type 0 where
  pub version : ℕ
  pub profile : ℕ
  pub files : List (List Block)
  pub graphs : AreGraphs version profile files bytes
  pub twice : StandsTwice files w
  pub least : (other : WayId) → StandsTwice files other → IsTrue (is_le (way_cmp w other))

-- what the fault tells of the bytes
abbrev pub IsRefusedFor : MergeFault → List ℕ → Type 0
IsRefusedFor (Graph number) bytes = BreaksAt bytes number
IsRefusedFor (Twice way) bytes = HasTwice bytes way

-- the fact holds of the fault, unless memory ended
abbrev pub IfFault : (MergeFault → Type 0) → MergeError → Type 0
IfFault Says (Fault fault) = Says fault
IfFault Says NoMemory = Unit {0}
