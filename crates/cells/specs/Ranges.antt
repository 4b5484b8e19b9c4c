-- Graphs that are put together: by one run of `merge`, or by one for each range of way numbers, where together they are
-- too large for that.
use Rattle.std.specs.Prelude.{◌≡◌, ℕ, ◌<◌, ◌^◌, List, ◌∷◌, ◌++◌, map, take, drop, Some, IsTrue, Contains, slice_get}
use Rattle.std.specs.List.{flat_map, sum_by, AllZip}
use Rattle.std.specs.Int.{w64, from_le_bytes}
use Rattle.std.specs.Ordering.{is_le}
use Rattle.road_base.specs.declared.ids.WayId.{WayId}
use Rattle.road_base.specs.Bytes.{u64_bytes}
use Rattle.road_model.specs.declared.blocks.Block.{Block}
use Rattle.road_model.specs.Orders.{way_cmp}
use Rattle.graph_file.specs.GraphReading.{IsFile}
use Rattle.graph_merge.specs.Ranges.{IsBetween}
use Rattle.last_words.specs.declared.status.Status.TheVariants.{Done}
use Rattle.cells.specs.declared.command.GraphCommand.TheVariants.{Range, Merge}
use Rattle.cells.specs.declared.command.Command.TheVariants.{Graphs}
use Rattle.cells.specs.Outcomes.{Gives}

-- one behind another
abbrev pub all_bytes : List (List ℕ) → List ℕ
all_bytes graphs = flat_map (λ graph. graph) graphs

-- `merge` put these bytes for the graphs
abbrev pub AreMerged : List (List ℕ) → List ℕ → Type 0
AreMerged graphs out = Gives (Some (Graphs Merge)) (all_bytes graphs) Done out

-- `range` put these bytes for the graph, or for what was cut out of it for a range around this one
pub data IsCutOut (from to : WayId) : List ℕ → List ℕ → Type 0 where
  OfAll : {graph out : List ℕ} → Gives (Some (Graphs (Range from to))) graph Done out → IsCutOut from to graph out
  OfSome : {graph out : List ℕ} (low high : WayId) (some : List ℕ)
      → Gives (Some (Graphs (Range low high))) graph Done some
      → IsTrue (is_le (way_cmp low from)) → IsTrue (is_le (way_cmp to high))
      → IsCutOut from to some out → IsCutOut from to graph out

-- ---- ranges

-- a range of way numbers: its first number, the one behind its last, what `range` put for each graph, and what `merge`
-- put for all of these
pub record MergedRange : Type 0 where
  pub from : WayId
  pub to : WayId
  pub cuts : List (List ℕ)
  pub graph : List ℕ

-- it is that of these graphs, which were cut in their order
pub record IsMergedRange (graphs : List (List ℕ)) (r : MergedRange) : Type 0 where
  pub cut : AllZip (IsCutOut r.from r.to) graphs r.cuts
  pub merged : AreMerged r.cuts r.graph

-- the graph has a block of the way
pub record HasBlockOf (graph : List ℕ) (w : WayId) : Type 0 where
  pub version : ℕ
  pub profile : ℕ
  pub blocks : List Block
  pub file : IsFile version profile graph blocks
  pub block : Block
  pub stands : Contains blocks block
  pub way_is : block.way ≡ w

-- The ranges are those of these graphs: each is merged, of two of them the later one begins where the earlier one ends,
-- or behind, and each way that has a block lies in one of them.
pub record AreMergedRanges (graphs : List (List ℕ)) (ranges : List MergedRange) : Type 0 where
  pub each : (r : MergedRange) → Contains ranges r → IsMergedRange graphs r
  pub order : (i j : ℕ) (r s : MergedRange) → i < j → slice_get ranges i ≡ Some r → slice_get ranges j ≡ Some s
      → IsTrue (is_le (way_cmp r.to s.from))
  pub all : (graph : List ℕ) (w : WayId) → Contains graphs graph → HasBlockOf graph w
      → (r : MergedRange) × Contains ranges r × IsBetween r.from r.to w

-- ---- joined

-- how many blocks a graph says that it has, in the eight bytes behind its magic and its profile
abbrev pub count_of : List ℕ → ℕ
count_of graph = from_le_bytes w64 (take 8 (drop 12 graph))

-- The graphs' blocks, one behind another, with a head: the magic and the profile of the first graph, and the sum of the
-- counts, which fits its eight bytes.
pub record AreJoined (graphs : List (List ℕ)) (out : List ℕ) : Type 0 where
  pub first : List ℕ
  pub others : List (List ℕ)
  pub are : graphs ≡ first ∷ others
  pub fits : sum_by count_of graphs < 2 ^ 64
  pub spelled : out ≡ take 12 first ++ (u64_bytes (sum_by count_of graphs) ++ flat_map (drop 20) graphs)

-- ---- put together

-- the bytes are what `merge` put for all graphs, or what it put for each range, joined
pub data ArePutTogether (graphs : List (List ℕ)) (out : List ℕ) : Type 0 where
  AtOnce : AreMerged graphs out → ArePutTogether graphs out
  ByRanges : (ranges : List MergedRange) → AreMergedRanges graphs ranges → AreJoined (map (λ r. r.graph) ranges) out
      → ArePutTogether graphs out
