-- Maps of blocks, and the blocks that are gone over.
use Rattle.std.proofs.Common.{◌≡◌, Bool, true, false, T, List, map, Some, Contains, IsTrue, refl, sym, ap, subst, ◌∙◌}
use Rattle.std.specs.Prelude.{◌↔◌}
use Rattle.std.specs.Cmp.{IsTotalOrder}
use Rattle.std.specs.FinMap.{FinMap, IsAntisymmetric, entries, values, from_entries, get, get-entries, get-from_entries}
use Rattle.std.specs.FinMap.{entries_sorted, same_map}
use Rattle.road_base.specs.declared.ids.WayId.{WayId}
use Rattle.road_model.specs.declared.blocks.Block.{Block}
use Rattle.road_model.specs.BlockMap.{entry_of}
use Rattle.road_model.specs.Orders.{way_cmp}
use Rattle.ordered_lists.specs.Orders.{rises}
use Rattle.ordered_lists.proofs.ListMembers.{In}
use Rattle.ordered_lists.proofs.SortedMaps.{values_of, entries_of, get_member, member_of_get}
use Rattle.layered_maps.specs.Layers.{Rise}
use Rattle.layered_maps.proofs.FoundPairs.{found_member, keys_rise, told_by_values}
use Rattle.graph_blocks.specs.Lent.{map_of, AreAtTheirWays}

told : (b : Bool) → T b → IsTrue b
told true h = refl
told false h = absurd h

module _ (total : IsTotalOrder way_cmp) (ties : IsAntisymmetric way_cmp) where
  -- a map is that of its entries
  pub map_again : (m : FinMap way_cmp Block) → from_entries (entries m) ≡ m
  map_again m =
      same_map total ties (from_entries (entries m)) m
      (λ q. get-from_entries total (entries m) q ∙ sym (get-entries m q))

  module _ (pairs : List (WayId × Block)) (blocks : List Block) (are : map entry_of blocks ≡ pairs)
      (up : IsTrue (rises way_cmp (map (λ b. b.way) blocks))) where
    -- blocks that ascend are the values of their map
    pub values_again : blocks ≡ values (map_of pairs)
    values_again =
        sym (values_of (λ (b : Block). b.way) blocks)
        ∙ ap (map (λ (e : WayId × Block). e.1)) (sym (entries_of (λ (b : Block). b.way) way_cmp total blocks up))
        ∙ ap (λ l. values (map_of l)) are

    -- and each of them stands at its way
    pub each_again : (b : Block) → Contains blocks b ↔ (get (map_of pairs) b.way ≡ Some b)
    each_again b = (
      λ has. ap (λ l. get (map_of l) b.way) (sym are)
          ∙ get_member (λ (x : Block). x.way) way_cmp total b blocks up has,
      λ got. member_of_get (λ (x : Block). x.way) way_cmp total b.way b blocks
          (ap (λ l. get (map_of l) b.way) are ∙ got),
    )

  -- the values of a map in which each block stands at its way
  module _ (m : FinMap way_cmp Block) (at : AreAtTheirWays m) where
    entries_rise : Rise way_cmp (entries m)
    entries_rise = told _ (entries_sorted m)

    at_way : (p : WayId × Block) → In p (entries m) → p.1.way ≡ p.0
    at_way p i = at p.0 p.1 (get-entries m p.0 ∙ found_member way_cmp total (entries m) entries_rise p i)

    are_entries : map entry_of (values m) ≡ entries m
    are_entries = told_by_values (λ (b : Block). b.way) way_cmp total (entries m) at_way

    pub values_ascend : IsTrue (rises way_cmp (map (λ b. b.way) (values m)))
    values_ascend =
        keys_rise (λ (b : Block). b.way) way_cmp total (values m) (subst (Rise way_cmp) (sym are_entries) entries_rise)

    pub values_stand : (b : Block) → Contains (values m) b ↔ (get m b.way ≡ Some b)
    values_stand b =
        subst (λ n. Contains (values m) b ↔ (get n b.way ≡ Some b)) (map_again m)
        (each_again (entries m) (values m) are_entries values_ascend b)
