-- What is held while graphs are read, one behind another, and while their blocks are put.
use Rattle.std.specs.Prelude.{◌≡◌, ℕ, ◌+◌, ◌<◌, false, List, [], ◌++◌, length, map, take, get_or, IsTrue, flat_map}
use Rattle.std.specs.Ordering.{is_lt}
use Rattle.road_base.specs.declared.ids.WayId.{WayId}
use Rattle.road_base.specs.Bytes.{joined}
use Rattle.road_model.specs.declared.blocks.Block.{Block}
use Rattle.road_model.specs.Orders.{way_cmp}
use Rattle.road_model.specs.Format.{graph_bytes}
use Rattle.ordered_lists.specs.Orders.{rises}
use Rattle.graph_file.specs.GraphReading.{IsFile}
use Rattle.graph_merge.specs.declared.collecting.CollectedGraphs.{CollectedGraphs}
use Rattle.graph_merge.specs.Merging.{AreFiles}

-- the blocks are those of these files of its version and profile, one at least
pub record HasFiles (g : CollectedGraphs) (files : List (List Block)) : Type 0 where
  pub some : files ≡ [] → ⊥
  pub each : AreFiles g.version g.profile files
  pub blocks_are : g.blocks.items ≡ flat_map (λ f. f) files

-- the blocks are those of so many graph files that the bytes begin with, and then the rest stands
pub record HasFront (count : ℕ) (g : CollectedGraphs) (bytes rest : List ℕ) : Type 0 where
  pub files : List (List Block)
  pub count_is : length files ≡ count
  pub has : HasFiles g files
  pub parts : bytes ≡ joined (graph_bytes g.version g.profile) files ++ rest

-- the blocks are those of the graph files that the bytes are
pub record HasAll (g : CollectedGraphs) (bytes : List ℕ) : Type 0 where
  pub files : List (List Block)
  pub has : HasFiles g files
  pub spelled : bytes ≡ joined (graph_bytes g.version g.profile) files

-- no front of the bytes is a graph file of this version and profile
abbrev pub HasNone : ℕ → ℕ → List ℕ → Type 0
HasNone version profile bytes = (front rest : List ℕ) (bs : List Block) → bytes ≡ front ++ rest
    → IsFile version profile front bs → ⊥

-- the ways rise up to a place, and the next one, which is this, isn't above the one there
pub record StopsRising (bs : List Block) (w : WayId) : Type 0 where
  pub place : ℕ
  pub within : place + 1 < length bs
  pub front : IsTrue (rises way_cmp (map (λ b. b.way) (take (place + 1) bs)))
  pub way_is : (d : Block) → (get_or bs (place + 1) d).way ≡ w
  pub stops : (d : Block) → is_lt (way_cmp (get_or bs place d).way w) ≡ false
