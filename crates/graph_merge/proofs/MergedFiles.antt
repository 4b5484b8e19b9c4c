-- The blocks of all files, sorted by way.
use Rattle.std.proofs.Common.{◌≡◌, ℕ, ◌≤◌, Bool, true, false, List, [], ◌∷◌, map, IsTrue, refl, sym, ap, subst}
use Rattle.std.proofs.Common.{◌∙◌, arith, Contains, IsPermutation, IsSortedByKey}
use Rattle.std.specs.List.{AllByRecursion}
use Rattle.std.specs.Ordering.{is_lt}
use Rattle.std.proofs.lemmas.List.Sorted.{Contains-permutation, IsPermutation-sym}
use Rattle.road_base.specs.declared.ids.WayId.{WayId}
use Rattle.road_base.specs.Profiles.{IsProfile}
use Rattle.road_base.specs.Bytes.{joined}
use Rattle.road_model.specs.declared.blocks.Block.{Block}
use Rattle.road_model.specs.Orders.{way_cmp}
use Rattle.road_model.specs.Format.{graph_bytes, is_sourced, IsVersion}
use Rattle.road_model.proofs.TotalOrders.{way_cmp_total}
use Rattle.ordered_lists.specs.Orders.{Lists, rises}
use Rattle.ordered_lists.proofs.Comparisons.{turned}
use Rattle.ordered_lists.proofs.ListMembers.{all_from, all_at, contains_flat, contains_from_flat}
use Rattle.graph_file.specs.GraphReading.{IsFile, IsWayBlock}
use Rattle.graph_merge.specs.declared.collecting.CollectedGraphs.{CollectedGraphs}
use Rattle.graph_merge.specs.Merging.{AreFiles, StandsIn, StandsTwice, IsMerge, IsMerged, HasTwice}
use Rattle.graph_merge.specs.Collecting.{HasFiles, StopsRising}
use Rattle.graph_merge.proofs.CountedWays.{times, at_most_once}
use Rattle.graph_merge.proofs.TwiceInFiles.{all_of, twice_counts, counts_twice}
use Rattle.graph_merge.proofs.SortedBlocks.{upto, two, lesser_once, times_kept}

-- ---- what holds of each file holds of each block

way_blocks : (version profile : ℕ) (files : List (List Block)) → AreFiles version profile files → (b : Block)
    → Contains (all_of files) b → IsWayBlock (is_sourced version) b
way_blocks version profile files each b has =
    let at = contains_from_flat (λ (f : List Block). f) files b has in
    let file = all_at (λ f. IsFile version profile (graph_bytes version profile f) f) files at.0 each at.1 in
    all_at (IsWayBlock (is_sourced version)) at.0 b file.some.1 at.2

module _ (g : CollectedGraphs) (files : List (List Block)) (has : HasFiles g files) (sorted : List Block)
    (same : IsPermutation g.blocks.items sorted) where
  pub from_files : IsPermutation (all_of files) sorted
  from_files = subst (λ (l : List Block). IsPermutation l sorted) has.blocks_are same

  -- they are blocks of their ways, of a version and a profile that are known
  pub are_way_blocks : AllByRecursion (IsWayBlock (is_sourced g.version)) sorted
  are_way_blocks = all_from (IsWayBlock (is_sourced g.version)) sorted (λ b i.
      way_blocks g.version g.profile files has.each b (Contains-permutation sorted (all_of files) b
      (IsPermutation-sym (all_of files) sorted from_files) i))

  listed : IsTrue (rises way_cmp (map (λ b. b.way) sorted)) → Lists (λ b. b.way) way_cmp (StandsIn files) sorted
  listed up = record {
    ascending = up;
    sound = λ b i.
        let at = contains_from_flat (λ (f : List Block). f) files b
        (Contains-permutation sorted (all_of files) b (IsPermutation-sym (all_of files) sorted from_files) i) in
        record { file = at.0; listed = at.1; stands = at.2 };
    complete = λ b s.
        Contains-permutation (all_of files) sorted b from_files
        (contains_flat (λ (f : List Block). f) files s.file b s.listed s.stands);
  }

  -- a way that stands twice has two blocks among the sorted ones
  sorted_twice : (w : WayId) → StandsTwice files w → 2 ≤ times w sorted
  sorted_twice w twice =
      let kept = times_kept w (all_of files) sorted from_files in
      let counts = twice_counts files w twice in
      omega (arith, kept, counts)

  pub merge_is : IsTrue (rises way_cmp (map (λ b. b.way) sorted)) → IsMerge files sorted
  merge_is up = record {
    listed = listed up;
    once = λ w twice.
        let many = sorted_twice w twice in
        let few = at_most_once w sorted up in
        omega (arith, many, few);
  }

  pub merged_is : (bytes out : List ℕ) → bytes ≡ joined (graph_bytes g.version g.profile) files
      → IsTrue (rises way_cmp (map (λ b. b.way) sorted)) → IsFile g.version g.profile out sorted → IsMerged bytes out
  merged_is bytes out spelled up file = record {
    version = g.version;
    profile = g.profile;
    files = files;
    blocks = sorted;
    graphs = record { some = has.some; each = has.each; spelled = spelled };
    merge = merge_is up;
    file = file;
  }

  -- where the sorted blocks don't ascend, the way is the least that stands twice
  pub twice_is : (bytes : List ℕ) (w : WayId) → bytes ≡ joined (graph_bytes g.version g.profile) files
      → IsSortedByKey (λ (b : Block). b.way) way_cmp sorted → StopsRising sorted w → HasTwice bytes w
  twice_is bytes w spelled order stop = record {
    version = g.version;
    profile = g.profile;
    files = files;
    graphs = record { some = has.some; each = has.each; spelled = spelled };
    twice =
        let kept = times_kept w (all_of files) sorted from_files in
        let many = two sorted order w stop in
        counts_twice g.version g.profile files has.each w (omega (arith, kept, many));
    least = λ other twice.
        upto (way_cmp w other) (ap is_lt (sym (turned way_cmp way_cmp_total w other (way_cmp w other) refl))
        ∙ not_below other twice (is_lt (way_cmp other w)) refl);
  }
    where
      not_below : (other : WayId) → StandsTwice files other → (r : Bool) → is_lt (way_cmp other w) ≡ r
          → is_lt (way_cmp other w) ≡ false
      not_below other twice false is = is
      not_below other twice true is =
          let many = sorted_twice other twice in
          let few = lesser_once sorted order w stop other is in
          absurd (omega (arith, many, few))

-- the version and the profile of files are known
pub known_version : (g : CollectedGraphs) (files : List (List Block)) → HasFiles g files → IsVersion g.version
known_version g files has = of_first files has.some has.each
  where
    of_first : (files : List (List Block)) → (files ≡ [] → ⊥) → AreFiles g.version g.profile files → IsVersion g.version
    of_first [] some each = absurd (some refl)
    of_first (f ∷ fs) some each = each.0.known_version

pub known_profile : (g : CollectedGraphs) (files : List (List Block)) → HasFiles g files → IsProfile g.profile
known_profile g files has = of_first files has.some has.each
  where
    of_first : (files : List (List Block)) → (files ≡ [] → ⊥) → AreFiles g.version g.profile files → IsProfile g.profile
    of_first [] some each = absurd (some refl)
    of_first (f ∷ fs) some each = each.0.known
