-- The blocks of a file whose ways lie in a range.
use Rattle.std.proofs.Common.{◌≡◌, ℕ, Bool, true, ◌&&◌, List, map, filter, Contains, IsTrue, sym, subst}
use Rattle.std.specs.List.{AllByRecursion}
use Rattle.std.specs.Ordering.{is_lt, is_le}
use Rattle.std.proofs.lemmas.Bool.{and_parts, and_from}
use Rattle.road_base.specs.declared.ids.WayId.{WayId}
use Rattle.road_model.specs.declared.blocks.Block.{Block}
use Rattle.road_model.specs.Orders.{way_cmp}
use Rattle.road_model.specs.Format.{is_sourced}
use Rattle.road_model.proofs.TotalOrders.{way_cmp_total}
use Rattle.ordered_lists.specs.Orders.{rises}
use Rattle.ordered_lists.proofs.AscendingLists.{rises_kept}
use Rattle.ordered_lists.proofs.FilteredLists.{contains_filter, contains_from_filter}
use Rattle.ordered_lists.proofs.ListMembers.{all_from, all_at}
use Rattle.graph_file.specs.GraphReading.{IsFile, IsWayBlock}
use Rattle.graph_merge.specs.Ranges.{IsRange}

-- the block's way is at least the one and below the other
abbrev pub lies : WayId → WayId → Block → Bool
lies from to b = is_le (way_cmp from b.way) && is_lt (way_cmp b.way to)

module _ (from to : WayId) (version profile : ℕ) (bytes : List ℕ) (blocks kept : List Block)
    (file : IsFile version profile bytes blocks) (is : kept ≡ filter (lies from to) blocks) where
  pub kept_rise : IsTrue (rises way_cmp (map (λ b. b.way) kept))
  kept_rise = subst (λ (l : List Block). IsTrue (rises way_cmp (map (λ b. b.way) l))) (sym is)
      (rises_kept (λ (b : Block). b.way) way_cmp way_cmp_total (lies from to) blocks file.ascend)

  kept_one : (b : Block) → Contains kept b → Contains blocks b × (lies from to b ≡ true)
  kept_one b has =
      contains_from_filter (lies from to) blocks b (subst (λ (l : List Block). Contains l b) is has)

  pub kept_blocks : AllByRecursion (IsWayBlock (is_sourced version)) kept
  kept_blocks = all_from (IsWayBlock (is_sourced version)) kept (λ b has.
      all_at (IsWayBlock (is_sourced version)) blocks b file.some.1 (kept_one b has).0)

  pub range_is : (out : List ℕ) → IsFile version profile out kept → IsRange from to bytes out
  range_is out put = record {
    version = version;
    profile = profile;
    blocks = blocks;
    kept = kept;
    file = file;
    listed = record {
      ascending = kept_rise;
      sound = λ b has. let one = kept_one b has in let both = and_parts _ _ one.1 in (one.0, (both.0, both.1));
      complete = λ b k.
          subst (λ (l : List Block). Contains l b) (sym is)
          (contains_filter (lies from to) blocks b k.0 (and_from _ _ k.1.0 k.1.1));
    };
    put = put;
  }
