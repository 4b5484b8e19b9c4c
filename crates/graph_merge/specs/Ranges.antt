-- The blocks of a graph file whose ways lie in a range.
use Rattle.std.specs.Prelude.{◌≡◌, ℕ, List, IsTrue, Contains}
use Rattle.std.specs.Ordering.{is_lt, is_le}
use Rattle.road_base.specs.declared.ids.WayId.{WayId}
use Rattle.road_model.specs.declared.blocks.Block.{Block}
use Rattle.road_model.specs.Orders.{way_cmp}
use Rattle.road_model.specs.Format.{IsGraphFile}
use Rattle.ordered_lists.specs.Orders.{Lists}
use Rattle.graph_file.specs.GraphReading.{IsFile}
use Rattle.graph_merge.specs.declared.faults.MergeFault.{MergeFault}
use Rattle.graph_merge.specs.declared.faults.MergeFault.TheVariants.{Graph}

-- the way is at least the one, and below the other
abbrev pub IsBetween : WayId → WayId → WayId → Type 0
IsBetween from to w = IsTrue (is_le (way_cmp from w)) × IsTrue (is_lt (way_cmp w to))

-- the block is one of these, and its way lies in the range
abbrev pub IsKept : WayId → WayId → List Block → Block → Type 0
IsKept from to blocks b = Contains blocks b × IsBetween from to b.way

-- the bytes are a graph file, and what is put is one of the same version and profile, with those of its blocks whose
-- ways lie in the range
pub record IsRange (from to : WayId) (bytes out : List ℕ) : Type 0 where
  pub version : ℕ
  pub profile : ℕ
  pub blocks : List Block
  pub kept : List Block
  pub file : IsFile version profile bytes blocks
  pub listed : Lists (λ b. b.way) way_cmp (IsKept from to blocks) kept
  pub put : IsFile version profile out kept

-- the bytes are no graph file, and the first of graph files is where they fail
abbrev pub IsNoGraph : List ℕ → MergeFault → Type 0
IsNoGraph bytes fault = (IsGraphFile bytes → ⊥) × (fault ≡ Graph 1)
