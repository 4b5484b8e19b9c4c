-- The files of ranges, joined, are one file of all blocks.
use Rattle.std.proofs.Common.{◌≡◌, ℕ, suc, Bool, true, false, ◌+◌, ◌<◌, ◌^◌, List, [], ◌∷◌, ◌++◌, length}
use Rattle.std.proofs.Common.{map, take, drop, slice_get, Some}
use Rattle.std.proofs.Common.{Contains, inl, inr, IsTrue, refl, sym, ap, subst, ◌∙◌, arith, append_assoc, length-append}
use Rattle.std.specs.List.{flat_map, sum_by, AllZip, AllByRecursion}
use Rattle.std.specs.Int.{w64, from_le_bytes}
use Rattle.std.specs.Ordering.{is_le}
use Rattle.std.proofs.lemmas.List.{take_at, drop_at}
use Rattle.std.proofs.lemmas.List.Sums.{sum_by-cons}
use Rattle.std.proofs.lemmas.Nat.{from_le_bytes-to_le_bytes_8}
use Rattle.road_base.specs.declared.ids.WayId.{WayId}
use Rattle.road_base.specs.Bytes.{u32_bytes, u64_bytes, joined}
use Rattle.ordered_lists.specs.Orders.{Lists, rises}
use Rattle.ordered_lists.proofs.JoinedLists.{lists_joined, lists_none, lists_same}
use Rattle.ordered_lists.proofs.ListMembers.{contains_head, contains_later, contains_cases, contains_none, at_in}
use Rattle.ordered_lists.proofs.ListMembers.{in_from_contains, contains_from_in, in_at}
use Rattle.road_model.specs.declared.blocks.Block.{Block}
use Rattle.road_model.specs.Orders.{way_cmp}
use Rattle.road_model.specs.Format.{magic_bytes, block_bytes, is_sourced}
use Rattle.graph_file.specs.GraphReading.{IsFile, IsWayBlock}
use Rattle.graph_file.proofs.JoinedFiles.{head_of, body_of, joined_both, all_both}
use Rattle.graph_merge.specs.Merging.{StandsIn, HasWayAt, StandsTwice, IsMerged}
use Rattle.graph_merge.specs.Ranges.{IsBetween}
use Rattle.cells.specs.Ranges.{all_bytes, MergedRange, AreMergedRanges, count_of, AreJoined}
use Rattle.cells.proofs.RangesOrder.{IsBelow, below_upto_end}
use Rattle.cells.proofs.RangesPairs.{left_of}
use Rattle.cells.proofs.RangesFiles.{OneFront, are_files, spelled}
use Rattle.cells.proofs.RangesMerged.{IsMadeOf, range_made, whole_files}

abbrev all_blocks : List (List Block) → List Block
all_blocks lists = flat_map (λ blocks. blocks) lists

-- ---- the bytes

head_length : (sourced : Bool) (profile : ℕ) → length (magic_bytes sourced ++ u32_bytes profile) ≡ 12
head_length false profile = refl
head_length true profile = refl

-- the eight bytes behind the twelve of magic and profile
count_bytes : (h c b : List ℕ) → length h ≡ 12 → length c ≡ 8 → take 8 (drop 12 (h ++ (c ++ b))) ≡ c
count_bytes h c b twelve eight = ap (take 8) (drop_at h (c ++ b) 12 twelve) ∙ take_at c b 8 eight

module _ (v p : ℕ) where
  counted : (g : List ℕ) (bs : List Block) → IsFile v p g bs → count_of g ≡ length bs
  counted g bs file =
      let head : List ℕ = magic_bytes (is_sourced v) ++ u32_bytes p in
      let body : List ℕ = joined (block_bytes (is_sourced v)) bs in
      let twelve : length head ≡ 12 = head_length (is_sourced v) p in
      let parts : g ≡ head ++ (u64_bytes (length bs) ++ body) = file.spelled
      ∙ sym (append_assoc (magic_bytes (is_sourced v)) (u32_bytes p) (u64_bytes (length bs) ++ body)) in
      ap count_of parts
      ∙ ap (from_le_bytes w64) (count_bytes head (u64_bytes (length bs)) body twelve refl)
      ∙ from_le_bytes-to_le_bytes_8 (length bs) file.some.0

  all_counted : (gs : List (List ℕ)) (fs : List (List Block)) → AllZip (IsFile v p) gs fs
      → sum_by count_of gs ≡ length (all_blocks fs)
  all_counted [] [] zip = refl
  all_counted [] (f ∷ fs) zip = absurd zip
  all_counted (g ∷ gs) [] zip = absurd zip
  all_counted (g ∷ gs) (f ∷ fs) zip = sum_by-cons count_of g gs
      ∙ (λ i. counted g f zip.0 i + all_counted gs fs zip.1 i)
      ∙ sym (length-append f (all_blocks fs))

  all_bodies : (gs : List (List ℕ)) (fs : List (List Block)) → AllZip (IsFile v p) gs fs
      → flat_map (drop 20) gs ≡ joined (block_bytes (is_sourced v)) (all_blocks fs)
  all_bodies [] [] zip = refl
  all_bodies [] (f ∷ fs) zip = absurd zip
  all_bodies (g ∷ gs) [] zip = absurd zip
  all_bodies (g ∷ gs) (f ∷ fs) zip =
      (λ i. (ap (drop 20) (zip.0).spelled ∙ body_of v p f) i ++ all_bodies gs fs zip.1 i)
      ∙ sym (joined_both (block_bytes (is_sourced v)) f (all_blocks fs))

  all_way_blocks : (gs : List (List ℕ)) (fs : List (List Block)) → AllZip (IsFile v p) gs fs
      → AllByRecursion (IsWayBlock (is_sourced v)) (all_blocks fs)
  all_way_blocks [] [] zip = tt
  all_way_blocks [] (f ∷ fs) zip = absurd zip
  all_way_blocks (g ∷ gs) [] zip = absurd zip
  all_way_blocks (g ∷ gs) (f ∷ fs) zip = all_both (IsWayBlock (is_sourced v)) f (all_blocks fs) (zip.0).some.1
      (all_way_blocks gs fs zip.1)

  -- the first graph's head
  first_head : (gs : List (List ℕ)) (fs : List (List Block)) → AllZip (IsFile v p) gs fs → (first : List ℕ)
      (others : List (List ℕ)) → gs ≡ first ∷ others → (f : List Block) × IsFile v p first f
  first_head [] fs zip first others is = cc
  first_head (g ∷ gs) [] zip first others is = absurd zip
  first_head (g ∷ gs) (f ∷ fs) zip first others is =
      let same : g ≡ first = cc in (f, subst (λ (x : List ℕ). IsFile v p x f) same zip.0)

  joined_file : (gs : List (List ℕ)) (fs : List (List Block)) (out : List ℕ) → AllZip (IsFile v p) gs fs
      → AreJoined gs out → IsTrue (rises way_cmp (map (λ b. b.way) (all_blocks fs))) → IsFile v p out (all_blocks fs)
  joined_file gs fs out zip are up =
      let first = first_head gs fs zip are.first are.others are.are in
      let magic : List ℕ = magic_bytes (is_sourced v) in
      let count : sum_by count_of gs ≡ length (all_blocks fs) = all_counted gs fs zip in
      let body : flat_map (drop 20) gs ≡ joined (block_bytes (is_sourced v)) (all_blocks fs) = all_bodies gs fs zip in
      let head : take 12 are.first ≡ magic ++ u32_bytes p = ap (take 12) (first.1).spelled ∙ head_of v p first.0 in
      record {
        known_version = (first.1).known_version;
        known = (first.1).known;
        spelled = are.spelled ∙ (λ i. head i ++ (u64_bytes (count i) ++ body i))
            ∙ append_assoc magic (u32_bytes p)
            (u64_bytes (length (all_blocks fs)) ++ joined (block_bytes (is_sourced v)) (all_blocks fs));
        some = (subst (λ n. n < 2 ^ 64) count are.fits, all_way_blocks gs fs zip);
        ascend = up;
      }

-- ---- the blocks

-- the way lies in one of the ranges
abbrev IsInOne : List MergedRange → WayId → Type 0
IsInOne ranges w = (r : MergedRange) × Contains ranges r × IsBetween r.from r.to w

-- of two ranges the later one begins where the earlier one ends, or behind
abbrev AreOrdered : List MergedRange → Type 0
AreOrdered ranges = (i j : ℕ) (r s : MergedRange) → i < j → slice_get ranges i ≡ Some r → slice_get ranges j ≡ Some s
    → IsTrue (is_le (way_cmp r.to s.from))

module _ (one : OneFront) (v p : ℕ) (files : List (List Block)) where
  record AreMade (ranges : List MergedRange) : Type 0 where
    lists : List (List Block)
    are : AllZip (IsFile v p) (map (λ r. r.graph) ranges) lists
    listed : Lists (λ b. b.way) way_cmp (λ b. StandsIn files b × IsInOne ranges b.way) (all_blocks lists)

  -- what lies in a range is below what lies in a later one
  range_below : (r : MergedRange) (rs : List MergedRange) → AreOrdered (r ∷ rs) → (a b : WayId)
      → IsBetween r.from r.to a → IsInOne rs b → IsBelow a b
  range_below r rs order a b here (s, has, there) =
      let k = at_in rs s (in_from_contains rs s has) in
      let first : slice_get (r ∷ rs) 0 ≡ Some r = refl in
      let above = order 0 (suc k.0) r s (omega arith) first k.1 in
      below_upto_end a s.from b (below_upto_end a r.to s.from here.1 above) there.0

  are_made : (ranges : List MergedRange) → ((r : MergedRange) → Contains ranges r → IsMadeOf one v p files r)
      → AreOrdered ranges → AreMade ranges
  are_made [] made order = record {
    lists = [];
    are = tt;
    listed = lists_none (λ b. b.way) way_cmp (λ b. StandsIn files b × IsInOne [] b.way)
        (λ b is. contains_none (is.1).0 (is.1).1);
  }
  are_made (r ∷ rs) made order =
      let first = made r (contains_head r rs) in
      let rest = are_made rs (λ s has. made s (contains_later r s rs has))
      (λ i j a b below at_i at_j. order (suc i) (suc j) a b (omega arith) at_i at_j) in
      record {
        lists = first.blocks ∷ rest.lists;
        are = (first.file, rest.are);
        listed = lists_joined (λ b. b.way) way_cmp (λ b. StandsIn files b × IsBetween r.from r.to b.way)
            (λ b. StandsIn files b × IsInOne rs b.way) (λ b. StandsIn files b × IsInOne (r ∷ rs) b.way)
            first.blocks (all_blocks rest.lists) first.listed rest.listed
            (λ a b here there. range_below r rs order a.way b.way here.1 there.1)
            (λ b is. (is.0, (r, contains_head r rs, is.1)))
            (λ b is. (is.0, ((is.1).0, contains_later r (is.1).0 rs (is.1).1, (is.1).2)))
            (λ b is. elim (contains_cases r (is.1).0 rs (is.1).1) [
              | inl e ↦ inl (is.0, subst (λ (s : MergedRange). IsBetween s.from s.to b.way) e (is.1).2)
              | inr more ↦ inr (is.0, ((is.1).0, more, (is.1).2))
            ]);
      }

-- ---- all

some_range : (ranges : List MergedRange) (first : List ℕ) (others : List (List ℕ))
    → map (λ r. r.graph) ranges ≡ first ∷ others → (r : MergedRange) × Contains ranges r
some_range [] first others is = cc
some_range (r ∷ rs) first others is = (r, contains_head r rs)

module _ (one : OneFront) (graphs : List (List ℕ)) (ranges : List MergedRange) (are : AreMergedRanges graphs ranges)
  where
    module _ (v p : ℕ) (files : List (List Block)) (zip : AllZip (IsFile v p) graphs files) where
      block_in_one : (b : Block) → StandsIn files b → IsInOne ranges b.way
      block_in_one b stands =
          let g = left_of (IsFile v p) graphs files zip stands.file stands.listed in
          are.all g.0 b.way g.1 (record {
            version = v;
            profile = p;
            blocks = stands.file;
            file = g.2;
            block = b;
            stands = stands.stands;
            way_is = refl;
          })

      made : (r : MergedRange) → Contains ranges r → IsMadeOf one v p files r
      made r has = range_made one v p graphs files zip r (are.each r has)

      way_stands : (place : ℕ) (w : WayId) → HasWayAt files place w → (b : Block) × StandsIn files b × (b.way ≡ w)
      way_stands place w h = (
        h.block,
        record {
          file = h.file;
          listed = contains_from_in files h.file (in_at files h.file place h.at);
          stands = h.stands;
        },
        h.way_is,
      )

      not_twice : (w : WayId) → StandsTwice files w → ⊥
      not_twice w twice =
          let b = way_stands twice.first w twice.in_first in
          let r = block_in_one b.0 b.1 in
          (made r.0 r.1).once w (subst (IsBetween (r.0).from (r.0).to) b.2 r.2) twice

    first_range : (out : List ℕ) → AreJoined (map (λ r. r.graph) ranges) out → (r : MergedRange) × Contains ranges r
    first_range out joined = some_range ranges joined.first joined.others joined.are

    pub merged_in_ranges : (out : List ℕ) → AreJoined (map (λ r. r.graph) ranges) out → IsMerged (all_bytes graphs) out
    merged_in_ranges out joined =
        let r = first_range out joined in
        let whole = whole_files one graphs r.0 (are.each r.0 r.1) in
        let v = whole.version in
        let p = whole.profile in
        let files = whole.files in
        let all = are_made one v p files ranges (made v p files whole.are) are.order in
        record {
          version = v;
          profile = p;
          files = files;
          blocks = all_blocks all.lists;
          graphs = record {
            some = whole.some;
            each = are_files v p graphs files whole.are;
            spelled = spelled v p graphs files whole.are;
          };
          merge = record {
            listed = lists_same (λ b. b.way) way_cmp (λ b. StandsIn files b × IsInOne ranges b.way) (StandsIn files)
                (all_blocks all.lists) all.listed (λ b is. is.0)
                (λ b stands. (stands, block_in_one v p files whole.are b stands));
            once = not_twice v p files whole.are;
          };
          file = joined_file v p (map (λ r. r.graph) ranges) all.lists out all.are joined all.listed.ascending;
        }
