-- The ways with the key `highway`, the restrictions, and the nodes and ways that these name, have the map's blocks.
use Rattle.std.proofs.Common.{◌↔◌, ℕ, zero, suc, inl, inr, List, subst}
use Rattle.road_base.specs.declared.ids.WayId.{WayId}
use Rattle.road_base.specs.declared.ids.Key.{Key}
use Rattle.road_base.specs.declared.ids.Key.TheVariants.{Node as NodeKey, Way as WayKey, Relation as RelationKey}
use Rattle.road_base.specs.Objects.{Objects}
use Rattle.ordered_lists.proofs.JoinedLists.{lists_same}
use Rattle.road_model.specs.declared.blocks.Block.{Block}
use Rattle.road_model.specs.Rules.{Rules}
use Rattle.road_model.specs.Orders.{way_cmp}
use Rattle.road_model.specs.Links.{IsLink, IsWithin, IsTouched, link_radius}
use Rattle.road_model.specs.Highways.{IsHighway}
use Rattle.road_model.specs.Blocks.{IsRoadBlock}
use Rattle.road_model.specs.Format.{IsGraph}
use Rattle.map_cells.specs.Cells.{AreRoads, Keeps}
use Rattle.map_cells.proofs.KeptLinks.{way_kept, kept_untouched}
use Rattle.map_cells.proofs.PartBlocks.{BlocksStay, road_stays, road_stayed}

module _ (M R : Objects) (roads : AreRoads M R) where
  -- what has a link in the map is kept
  linked_kept : (a b : Key) → IsLink M a b → Keeps M R b
  linked_kept (NodeKey n) (NodeKey m) l = absurd l
  linked_kept (NodeKey n) (WayKey w) l = roads.ways w l.body l.is l.highway
  linked_kept (NodeKey n) (RelationKey r) l = roads.restrictions r l.body l.is l.restriction
  linked_kept (WayKey w) (NodeKey n) l = roads.nodes w n l
  linked_kept (WayKey w) (WayKey v) l = absurd l
  linked_kept (WayKey w) (RelationKey r) l = roads.restrictions r l.body l.is l.restriction
  linked_kept (RelationKey r) (NodeKey n) l = roads.members r (NodeKey n) l
  linked_kept (RelationKey r) (WayKey w) l = roads.members r (WayKey w) l
  linked_kept (RelationKey r) (RelationKey q) l = absurd l

  near_kept : (n : ℕ) (a k : Key) → Keeps M R a → IsWithin M n a k → Keeps M R k
  near_kept zero a k keeps h = subst (Keeps M R) h keeps
  near_kept (suc n) a k keeps (inl h) = near_kept n a k keeps h
  near_kept (suc n) a k keeps (inr h) = linked_kept h.0 k h.2

  -- no difference is near a way with the key
  highway_untouched : (w : WayId) → IsHighway M w → IsTouched M R w → ⊥
  highway_untouched w h = kept_untouched M R roads.part w
      (λ k. near_kept link_radius (WayKey w) k (roads.ways w h.body h.visible h.tagged))

  highway_kept : (w : WayId) → IsHighway R w → IsHighway M w
  highway_kept w h = record {
    body = h.body;
    visible = way_kept M R roads.part w h.body h.visible;
    tagged = h.tagged;
  }

  module _ (P : Rules) (stays : BlocksStay M R P) (highway : (N : Objects) (b : Block) → IsRoadBlock N P b
      → IsHighway N b.way) where
    pub same_road : (b : Block) → IsRoadBlock M P b ↔ IsRoadBlock R P b
    same_road b = (
      λ road. road_stays M R P stays b (highway_untouched b.way (highway M b road)) road,
      λ road. road_stayed M R P stays b (highway_untouched b.way (highway_kept b.way (highway R b road))) road,
    )

    pub same_graph : (bytes : List ℕ) → IsGraph M P bytes ↔ IsGraph R P bytes
    same_graph bytes = (
      λ g. record {
        blocks = g.blocks;
        listed = lists_same (λ b. b.way) way_cmp (IsRoadBlock M P) (IsRoadBlock R P) g.blocks g.listed
            (λ b. (same_road b).0) (λ b. (same_road b).1);
        spelled = g.spelled;
      },
      λ g. record {
        blocks = g.blocks;
        listed = lists_same (λ b. b.way) way_cmp (IsRoadBlock R P) (IsRoadBlock M P) g.blocks g.listed
            (λ b. (same_road b).1) (λ b. (same_road b).0);
        spelled = g.spelled;
      },
    )
