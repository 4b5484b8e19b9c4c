-- The blocks of the parts in which a map is compiled are the map's.
use Rattle.std.proofs.Common.{◌↔◌, inl, inr, List, Contains}
use Rattle.road_base.specs.declared.ids.WayId.{WayId}
use Rattle.road_base.specs.declared.ids.Key.TheVariants.{Way as WayKey}
use Rattle.road_base.specs.Objects.{Objects}
use Rattle.ordered_lists.specs.Orders.{Lists}
use Rattle.ordered_lists.proofs.JoinedLists.{lists_same}
use Rattle.road_model.specs.declared.blocks.Block.{Block}
use Rattle.road_model.specs.Rules.{Rules}
use Rattle.road_model.specs.Orders.{way_cmp}
use Rattle.road_model.specs.Links.{IsTouched, link_radius}
use Rattle.road_model.specs.Blocks.{IsBlock, IsRoadBlock}
use Rattle.road_model.proofs.LocalLinks.{within_turned}
use Rattle.map_cells.specs.Cells.{IsCut}
use Rattle.map_cells.specs.Parts.{Part, IsBlockIn, IsTakenFrom, AreParts, AreBlocksOfParts}
use Rattle.map_cells.proofs.KeptLinks.{kept_untouched}
use Rattle.map_cells.proofs.CellReach.{passes_untouched}

-- a way that the change from M to N doesn't touch keeps its block
abbrev pub BlocksStay : Objects → Objects → Rules → Type 0
BlocksStay M N P = (w : WayId) (b : Block) → (IsTouched M N w → ⊥) → IsBlock M P w b ↔ IsBlock N P w b

module _ (M N : Objects) (P : Rules) (stays : BlocksStay M N P) where
  pub road_stays : (b : Block) → (IsTouched M N b.way → ⊥) → IsRoadBlock M P b → IsRoadBlock N P b
  road_stays b untouched road = record { block = (stays b.way b untouched).0 road.block; some = road.some }

  pub road_stayed : (b : Block) → (IsTouched M N b.way → ⊥) → IsRoadBlock N P b → IsRoadBlock M P b
  road_stayed b untouched road = record { block = (stays b.way b untouched).1 road.block; some = road.some }

pub cut_untouched : (M C : Objects) (w : WayId) → IsCut M C w → IsTouched M C w → ⊥
cut_untouched M C w cut = kept_untouched M C cut.part w
    (λ k near. cut.near k (within_turned M link_radius (WayKey w) k near))

part_untouched : (M : Objects) (p : Part) → IsTakenFrom M p → (w : WayId) → Contains p.ways w
    → IsTouched M p.objects w → ⊥
part_untouched M p taken w among = elim (taken w among) [
  | inl cell ↦ passes_untouched M p.objects cell.0 cell.1 w cell.2
  | inr cut ↦ cut_untouched M p.objects w cut
]

module _ (M : Objects) (P : Rules) (stays : (N : Objects) → BlocksStay M N P) (parts : List Part)
    (compiled : AreParts M P parts) where
  block_found : (b : Block) → IsRoadBlock M P b → (p : Part) × Contains parts p × IsBlockIn P p b
  block_found b road =
      let (p, has, among) = compiled.all b road in
      let untouched = part_untouched M p (compiled.taken p has) b.way among in
      (p, has, record { among = among; road = road_stays M p.objects P (stays p.objects) b untouched road })

  block_sound : (b : Block) → ((p : Part) × Contains parts p × IsBlockIn P p b) → IsRoadBlock M P b
  block_sound b (p, has, is) = road_stayed M p.objects P (stays p.objects) b
      (part_untouched M p (compiled.taken p has) b.way is.among) is.road

  pub same_blocks : (blocks : List Block) → AreBlocksOfParts P parts blocks
      → Lists (λ b. b.way) way_cmp (IsRoadBlock M P) blocks
  same_blocks blocks listed = lists_same (λ b. b.way) way_cmp
      (λ b. (p : Part) × Contains parts p × IsBlockIn P p b) (IsRoadBlock M P) blocks listed block_sound block_found
