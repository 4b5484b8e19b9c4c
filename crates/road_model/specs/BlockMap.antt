-- Blocks as a finite map from ways, and how many more may be put without taking memory.
use Rattle.std.specs.Prelude.{◌≡◌, ◌↔◌, ℕ, List, Some, map, refl}
use Rattle.std.specs.Coded.{Coded, code_by, coded×, coded_ℕ}
use Rattle.std.specs.FinMap.{FinMap, from_entries, get, code}
use Rattle.road_base.specs.declared.ids.WayId.{WayId}
use Rattle.road_base.specs.contracts.ids.WayId as way
use Rattle.road_model.specs.declared.blocks.Block.{Block}
use Rattle.road_model.specs.contracts.blocks.Block as block
use Rattle.road_base.specs.Objects.{Objects}
use Rattle.road_model.specs.Rules.{Rules}
use Rattle.road_model.specs.Orders.{way_cmp}
use Rattle.road_model.specs.Blocks.{IsRoadBlock}

pub record BlockMap : Type 0 where
  pub map : FinMap way_cmp Block
  pub spare : ℕ

abbrev pub entry_of : Block → WayId × Block
entry_of b = (b.way, b)

abbrev pub block_map : List Block → FinMap way_cmp Block
block_map bs = from_entries (map entry_of bs)

-- the map has exactly the blocks of the ways with pieces, each at its way
abbrev pub AreBlocksOf : Objects → Rules → FinMap way_cmp Block → Type 0
AreBlocksOf M P m = (w : WayId) (b : Block) → (get m w ≡ Some b) ↔ ((b.way ≡ w) × IsRoadBlock M P b)

abbrev pub coded_block_map : Coded BlockMap
coded_block_map =
    code_by (FinMap way_cmp Block × ℕ) (coded× (code (way.the_row).coded (block.the_row).coded) coded_ℕ)
    (λ b. (b.map, b.spare)) (λ p. record { map = p.0; spare = p.1 }) (λ _. refl)
