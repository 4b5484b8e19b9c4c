-- What is merged of a range of graphs has exactly their blocks whose ways lie in the range.
use Rattle.std.proofs.Common.{◌≡◌, ℕ, List, [], ◌∷◌, Contains, refl, sym, subst, ◌∙◌}
use Rattle.std.specs.List.{AllZip}
use Rattle.road_base.specs.declared.ids.WayId.{WayId}
use Rattle.ordered_lists.specs.Orders.{Lists}
use Rattle.ordered_lists.proofs.JoinedLists.{lists_same}
use Rattle.road_model.specs.declared.blocks.Block.{Block}
use Rattle.road_model.specs.Orders.{way_cmp}
use Rattle.graph_file.specs.GraphReading.{IsFile}
use Rattle.graph_merge.specs.Merging.{StandsIn, HasWayAt, StandsTwice, IsMerged}
use Rattle.graph_merge.specs.Ranges.{IsBetween, IsKept, IsRange}
use Rattle.last_words.specs.declared.status.Status.TheVariants.{Done}
use Rattle.cells.specs.declared.command.GraphCommand.{GraphCommand}
use Rattle.cells.specs.declared.command.GraphCommand.TheVariants.{Range, Merge}
use Rattle.cells.specs.Outcomes.{GraphsGive, OfTooMuch, OfFault, OfGraphs, IsMadeOfGraphs}
use Rattle.cells.specs.Ranges.{all_bytes, IsCutOut, OfAll, OfSome, MergedRange, IsMergedRange}
use Rattle.cells.proofs.RangesOrder.{IsUpto, upto_upto, below_upto_end}
use Rattle.cells.proofs.RangesPairs.{right_of, left_of, right_at, left_empty}
use Rattle.cells.proofs.RangesFiles.{OneFront, IsSomeFile, same_file, told}

-- what a run that ended well gave
pub given : (command : GraphCommand) (bytes out : List ℕ) → GraphsGive command bytes Done out
    → IsMadeOfGraphs command bytes out
given command bytes out (OfTooMuch many is line) = cc
given command bytes out (OfFault few fault refused is line) = cc
given command bytes out (OfGraphs few made is) = made

module _ (one : OneFront) where
  -- ---- a range of what was cut for a range around it

  wider_kept : (from to low high : WayId) (blocks some : List Block) → IsUpto low from → IsUpto to high
      → Lists (λ b. b.way) way_cmp (IsKept low high blocks) some → (b : Block)
      → IsKept from to blocks b → IsKept from to some b
  wider_kept from to low high blocks some below above listed b kept = (
    listed.complete b (
      kept.0,
      (upto_upto low from b.way below kept.1.0, below_upto_end b.way to high kept.1.1 above),
    ),
    kept.1,
  )

  range_of_range : (from to low high : WayId) (graph some out : List ℕ) → IsRange low high graph some → IsUpto low from
      → IsUpto to high → IsRange from to some out → IsRange from to graph out
  range_of_range from to low high graph some out g below above h =
      let s = same_file one h.version g.version h.profile g.profile some h.blocks g.kept h.file g.put in
      let listed = lists_same (λ b. b.way) way_cmp (IsKept from to h.blocks) (IsKept from to g.blocks) h.kept h.listed
      (λ b kept. ((g.listed.sound b (subst (λ (bs : List Block). Contains bs b) s.2 kept.0)).0, kept.1))
      (λ b kept. subst (λ (bs : List Block). IsKept from to bs b) (sym s.2)
      (wider_kept from to low high g.blocks g.kept below above g.listed b kept)) in
      let of_version : IsFile g.version h.profile out h.kept = subst (λ k. IsFile k h.profile out h.kept) s.0 h.put in
      record {
        version = g.version;
        profile = g.profile;
        blocks = g.blocks;
        kept = h.kept;
        file = g.file;
        listed = listed;
        put = subst (λ k. IsFile g.version k out h.kept) s.1 of_version;
      }

  pub cut_range : (from to : WayId) (graph out : List ℕ) → IsCutOut from to graph out → IsRange from to graph out
  cut_range from to graph out (OfAll gives) = given (Range from to) graph out gives
  cut_range from to graph out (OfSome low high some gives below above cut) =
      range_of_range from to low high graph some out (given (Range low high) graph some gives) below above
      (cut_range from to some out cut)

  cut_ranges : (from to : WayId) (graphs cuts : List (List ℕ)) → AllZip (IsCutOut from to) graphs cuts
      → AllZip (IsRange from to) graphs cuts
  cut_ranges from to [] [] zip = tt
  cut_ranges from to [] (c ∷ cs) zip = absurd zip
  cut_ranges from to (g ∷ gs) [] zip = absurd zip
  cut_ranges from to (g ∷ gs) (c ∷ cs) zip = (cut_range from to g c zip.0, cut_ranges from to gs cs zip.1)

  -- ---- the files of what was cut

  -- the second file has those blocks of the first one whose ways lie in the range
  abbrev HasKept : WayId → WayId → List Block → List Block → Type 0
  HasKept from to file cut = Lists (λ b. b.way) way_cmp (IsKept from to file) cut

  module _ (from to : WayId) (v p w n : ℕ) where
    one_kept : (g c : List ℕ) (f k : List Block) → IsFile v p g f → IsRange from to g c → IsFile w n c k
        → (v ≡ w) × (p ≡ n) × HasKept from to f k
    one_kept g c f k file range cut =
        let a = same_file one range.version v range.profile p g range.blocks f range.file file in
        let b = same_file one range.version w range.profile n c range.kept k range.put cut in (
          sym a.0 ∙ b.0,
          sym a.1 ∙ b.1,
          subst (λ (ks : List Block). HasKept from to f ks) b.2
              (subst (λ (fs : List Block). HasKept from to fs range.kept) a.2 range.listed),
        )

    all_kept : (gs : List (List ℕ)) (fs : List (List Block)) (cs : List (List ℕ)) (ks : List (List Block))
        → AllZip (IsFile v p) gs fs → AllZip (IsRange from to) gs cs → AllZip (IsFile w n) cs ks
        → AllZip (HasKept from to) fs ks
    all_kept [] [] [] [] a b c = tt
    all_kept [] [] [] (k ∷ ks) a b c = absurd c
    all_kept [] [] (x ∷ cs) ks a b c = absurd b
    all_kept [] (f ∷ fs) cs ks a b c = absurd a
    all_kept (g ∷ gs) [] cs ks a b c = absurd a
    all_kept (g ∷ gs) (f ∷ fs) [] ks a b c = absurd b
    all_kept (g ∷ gs) (f ∷ fs) (x ∷ cs) [] a b c = absurd c
    all_kept (g ∷ gs) (f ∷ fs) (x ∷ cs) (k ∷ ks) a b c =
        ((one_kept g x f k a.0 b.0 c.0).2, all_kept gs fs cs ks a.1 b.1 c.1)

    same_kind : (gs : List (List ℕ)) (fs : List (List Block)) (cs : List (List ℕ)) (ks : List (List Block))
        → AllZip (IsFile v p) gs fs → AllZip (IsRange from to) gs cs → AllZip (IsFile w n) cs ks
        → (ks ≡ [] → ⊥) → (v ≡ w) × (p ≡ n)
    same_kind gs fs cs [] a b c some = absurd (some refl)
    same_kind gs fs [] (k ∷ ks) a b c some = absurd c
    same_kind [] fs (x ∷ cs) (k ∷ ks) a b c some = absurd b
    same_kind (g ∷ gs) [] (x ∷ cs) (k ∷ ks) a b c some = absurd a
    same_kind (g ∷ gs) (f ∷ fs) (x ∷ cs) (k ∷ ks) a b c some =
        let s = one_kept g x f k a.0 b.0 c.0 in (s.0, s.1)

  -- the graphs have files of the version and the profile of what was cut
  module _ (from to : WayId) (w n : ℕ) where
    one_whole : (g c : List ℕ) (k : List Block) → IsRange from to g c → IsFile w n c k
        → (f : List Block) × IsFile w n g f
    one_whole g c k range cut =
        let b = same_file one range.version w range.profile n c range.kept k range.put cut in
        let of_version : IsFile w range.profile g range.blocks
        = subst (λ z. IsFile z range.profile g range.blocks) b.0 range.file in
        (range.blocks, subst (λ z. IsFile w z g range.blocks) b.1 of_version)

    all_whole : (gs cs : List (List ℕ)) (ks : List (List Block)) → AllZip (IsRange from to) gs cs
        → AllZip (IsFile w n) cs ks → (fs : List (List Block)) × AllZip (IsFile w n) gs fs
    all_whole [] [] ks b c = ([], tt)
    all_whole [] (x ∷ cs) ks b c = absurd b
    all_whole (g ∷ gs) [] ks b c = absurd b
    all_whole (g ∷ gs) (x ∷ cs) [] b c = absurd c
    all_whole (g ∷ gs) (x ∷ cs) (k ∷ ks) b c =
        let f = one_whole g x k b.0 c.0 in
        let fs = all_whole gs cs ks b.1 c.1 in
        (f.0 ∷ fs.0, (f.1, fs.1))

  -- ---- what was merged

  some_cut : (from to : WayId) (gs cs : List (List ℕ)) → AllZip (IsRange from to) gs cs → (c : List ℕ) → Contains cs c
      → IsSomeFile c
  some_cut from to gs cs zip c has =
      let range = left_of (IsRange from to) gs cs zip c has in
      record {
        version = (range.2).version;
        profile = (range.2).profile;
        blocks = (range.2).kept;
        file = (range.2).put;
      }

  -- the files of what was cut of a range
  record CutFiles (graphs : List (List ℕ)) (r : MergedRange) : Type 0 where
    merged : IsMerged (all_bytes r.cuts) r.graph
    ranges : AllZip (IsRange r.from r.to) graphs r.cuts
    files : AllZip (IsFile merged.version merged.profile) r.cuts merged.files

  cut_files : (graphs : List (List ℕ)) (r : MergedRange) → IsMergedRange graphs r → CutFiles graphs r
  cut_files graphs r is =
      let merged : IsMerged (all_bytes r.cuts) r.graph = given Merge (all_bytes r.cuts) r.graph is.merged in
      let ranges = cut_ranges r.from r.to graphs r.cuts is.cut in
      record {
        merged = merged;
        ranges = ranges;
        files = told one merged.version merged.profile r.cuts merged.files (some_cut r.from r.to graphs r.cuts ranges)
            merged.graphs.each merged.graphs.spelled;
      }

  -- the graphs, by one of the ranges
  pub record WholeFiles (graphs : List (List ℕ)) : Type 0 where
    pub version : ℕ
    pub profile : ℕ
    pub files : List (List Block)
    pub are : AllZip (IsFile version profile) graphs files
    pub some : files ≡ [] → ⊥

  pub whole_files : (graphs : List (List ℕ)) (r : MergedRange) → IsMergedRange graphs r → WholeFiles graphs
  whole_files graphs r is =
      let c = cut_files graphs r is in
      let m = c.merged in
      let whole = all_whole r.from r.to m.version m.profile graphs r.cuts m.files c.ranges c.files in
      record {
        version = m.version;
        profile = m.profile;
        files = whole.0;
        are = whole.1;
        some = λ none. m.graphs.some (left_empty (HasKept r.from r.to) whole.0 m.files
            (all_kept r.from r.to m.version m.profile m.version m.profile graphs whole.0 r.cuts m.files whole.1 c.ranges
            c.files) none);
      }

  -- the blocks of the files whose ways lie in the range, as a file, and no way of the range has blocks in two
  pub record IsMadeOf (v p : ℕ) (files : List (List Block)) (r : MergedRange) : Type 0 where
    pub blocks : List Block
    pub file : IsFile v p r.graph blocks
    pub listed : Lists (λ b. b.way) way_cmp (λ b. StandsIn files b × IsBetween r.from r.to b.way) blocks
    pub once : (w : WayId) → IsBetween r.from r.to w → StandsTwice files w → ⊥

  module _ (from to : WayId) (files cuts : List (List Block)) (zip : AllZip (HasKept from to) files cuts) where
    kept_stands : (b : Block) → StandsIn cuts b → StandsIn files b × IsBetween from to b.way
    kept_stands b stands =
        let f = left_of (HasKept from to) files cuts zip stands.file stands.listed in
        let kept = (f.2).sound b stands.stands in
        (record { file = f.0; listed = f.1; stands = kept.0 }, kept.1)

    stands_kept : (b : Block) → StandsIn files b × IsBetween from to b.way → StandsIn cuts b
    stands_kept b (stands, between) =
        let k = right_of (HasKept from to) files cuts zip stands.file stands.listed in
        record { file = k.0; listed = k.1; stands = (k.2).complete b (stands.stands, between) }

    way_kept_at : (w : WayId) → IsBetween from to w → (place : ℕ) → HasWayAt files place w → HasWayAt cuts place w
    way_kept_at w between place h =
        let k = right_at (HasKept from to) files cuts zip place h.file h.at in
        let within = subst (IsBetween from to) (sym h.way_is) between in
        record {
          file = k.0;
          at = k.1;
          block = h.block;
          stands = (k.2).complete h.block (h.stands, within);
          way_is = h.way_is;
        }

    twice_kept : (w : WayId) → IsBetween from to w → StandsTwice files w → StandsTwice cuts w
    twice_kept w between h = record {
      first = h.first;
      second = h.second;
      apart = h.apart;
      in_first = way_kept_at w between h.first h.in_first;
      in_second = way_kept_at w between h.second h.in_second;
    }

  pub range_made : (v p : ℕ) (graphs : List (List ℕ)) (files : List (List Block)) → AllZip (IsFile v p) graphs files
      → (r : MergedRange) → IsMergedRange graphs r → IsMadeOf v p files r
  range_made v p graphs files are r is =
      let c = cut_files graphs r is in
      let m = c.merged in
      let zip = all_kept r.from r.to v p m.version m.profile graphs files r.cuts m.files are c.ranges c.files in
      let kind = same_kind r.from r.to v p m.version m.profile graphs files r.cuts m.files are c.ranges c.files
      m.graphs.some in
      let of_version : IsFile v m.profile r.graph m.blocks
      = subst (λ k. IsFile k m.profile r.graph m.blocks) (sym kind.0) m.file in
      record {
        blocks = m.blocks;
        file = subst (λ k. IsFile v k r.graph m.blocks) (sym kind.1) of_version;
        listed = lists_same (λ b. b.way) way_cmp (StandsIn m.files)
            (λ b. StandsIn files b × IsBetween r.from r.to b.way) m.blocks m.merge.listed
            (kept_stands r.from r.to files m.files zip) (stands_kept r.from r.to files m.files zip);
        once = λ w between twice. m.merge.once w (twice_kept r.from r.to files m.files zip w between twice);
      }
