-- All graphs of a compiled map, put together, are the map's graph.
use Rattle.std.proofs.Common.{◌≡◌, ◌↔◌, ◌⊎◌, ℕ, List, [], ◌∷◌, Contains, map, inl, inr, refl, sym, ap, subst}
use Rattle.std.specs.List.{AllZip}
use Rattle.road_base.specs.Objects.{Objects}
use Rattle.ordered_lists.proofs.ListMembers.{contains_head, contains_later}
use Rattle.road_model.specs.declared.blocks.Block.{Block}
use Rattle.road_model.specs.Rules.{Rules}
use Rattle.road_model.specs.Blocks.{IsRoadBlock}
use Rattle.road_model.specs.Format.{IsGraph, graph_bytes}
use Rattle.graph_file.specs.GraphReading.{IsFile}
use Rattle.graph_file.specs.WalkedFiles.{IsWalkedFile}
use Rattle.graph_merge.specs.Merging.{StandsIn, IsMerge, IsMerged}
use Rattle.access_profile.specs.Profiles.{rules_of}
use Rattle.map_cells.specs.Areas.{IsInside, CoverNodes}
use Rattle.map_cells.specs.Cells.{IsCell}
use Rattle.map_cells.specs.Owners.{IsOwn}
use Rattle.map_cells.specs.Parts.{Cell, AreCells, HasOneOwner}
use Rattle.cells.specs.declared.command.ProfileNumber.{ProfileNumber}
use Rattle.cells.specs.declared.command.GraphCommand.TheVariants.{Merge}
use Rattle.cells.specs.Commands.{number_of}
use Rattle.cells.specs.WholeGraph.{AreObjectsOf, CompiledCell, CompiledWays, IsNamed}
use Rattle.cells.specs.WholeGraph.{IsCompiledInCells, IsGraphAmong, AreAllGraphs, IsWholeGraph}
use Rattle.cells.specs.Ranges.{all_bytes, MergedRange, AreMergedRanges, AreJoined, ArePutTogether, AtOnce, ByRanges}
use Rattle.cells.proofs.RangesPairs.{right_of, left_of}
use Rattle.cells.proofs.RangesFiles.{OneFront, IsSomeFile, same_file, told}
use Rattle.cells.proofs.RangesMerged.{given}
use Rattle.cells.proofs.WholeCells.{OneReading, OneMap, IsFileOf, HasIn, ways_file, ways_has, cell_objects, cell_file}
use Rattle.cells.proofs.WholeCells.{own_block}

-- the bytes are a file of what files were merged to that have all blocks of the map's roads, and no others
pub record IsWholeMerge (M : Objects) (P : Rules) (out : List ℕ) : Type 0 where
  pub files : List (List Block)
  pub blocks : List Block
  pub stands : (b : Block) → StandsIn files b ↔ IsRoadBlock M P b
  pub merge : IsMerge files blocks
  pub file : IsFile 2 P.number out blocks

-- ---- a merge of files of a map's blocks that have all of them

module _ (one : OneFront) (M : Objects) (P : Rules) (graphs : List (List ℕ))
    (each : (g : List ℕ) → Contains graphs g → IsFileOf M P g)
    (all : (b : Block) → IsRoadBlock M P b → (g : List ℕ) × Contains graphs g × HasIn P g b) where
  some_file : (g : List ℕ) → Contains graphs g → IsSomeFile g
  some_file g has =
      let f = each g has in record { version = 2; profile = P.number; blocks = f.blocks; file = f.file }

  module _ (out : List ℕ) (m : IsMerged (all_bytes graphs) out) where
    zip : AllZip (IsFile m.version m.profile) graphs m.files
    zip = told one m.version m.profile graphs m.files some_file m.graphs.each m.graphs.spelled

    stands_road : (b : Block) → StandsIn m.files b → IsRoadBlock M P b
    stands_road b stands =
        let g = left_of (IsFile m.version m.profile) graphs m.files zip stands.file stands.listed in
        let f = each g.0 g.1 in
        let s = same_file one m.version 2 m.profile P.number g.0 stands.file f.blocks g.2 f.file in
        f.sound b (subst (λ (bs : List Block). Contains bs b) s.2 stands.stands)

    road_stands : (b : Block) → IsRoadBlock M P b → StandsIn m.files b
    road_stands b road =
        let (g, has, h) = all b road in
        let f = right_of (IsFile m.version m.profile) graphs m.files zip g has in
        let s = same_file one m.version 2 m.profile P.number g f.0 h.blocks f.2 h.file in
        record {
          file = f.0;
          listed = f.1;
          stands = subst (λ (bs : List Block). Contains bs b) (sym s.2) h.has;
        }

    -- the version and the profile are those of the first file
    same_kind : (gs : List (List ℕ)) (fs : List (List Block)) → AllZip (IsFile m.version m.profile) gs fs
        → ((g : List ℕ) → Contains gs g → Contains graphs g) → (fs ≡ [] → ⊥) → (m.version ≡ 2) × (m.profile ≡ P.number)
    same_kind gs [] are among some = absurd (some refl)
    same_kind [] (f ∷ fs) are among some = absurd are
    same_kind (g ∷ gs) (f ∷ fs) are among some =
        let h = each g (among g (contains_head g gs)) in
        let s = same_file one m.version 2 m.profile P.number g f h.blocks are.0 h.file in
        (s.0, s.1)

    pub merge_whole : IsWholeMerge M P out
    merge_whole =
        let kind = same_kind graphs m.files zip (λ g has. has) m.graphs.some in
        let of_version : IsFile 2 m.profile out m.blocks = subst (λ k. IsFile k m.profile out m.blocks) kind.0 m.file in
        record {
          files = m.files;
          blocks = m.blocks;
          stands = λ b. (stands_road b, road_stands b);
          merge = m.merge;
          file = subst (λ k. IsFile 2 k out m.blocks) kind.1 of_version;
        }

-- so they are its graph, and that of a map whose roads have the same blocks

-- merging gives the graph of a map, of which one walks over the file
abbrev pub MergedGraph : Rules → Type 0
MergedGraph P = (M : Objects) (files : List (List Block)) (blocks : List Block)
    → ((b : Block) → StandsIn files b ↔ IsRoadBlock M P b) → IsMerge files blocks
    → IsGraph M P (graph_bytes 2 P.number blocks)

abbrev pub MergedWalks : Rules → Type 0
MergedWalks P = (M : Objects) (files : List (List Block)) (blocks : List Block) (bytes : List ℕ)
    → ((b : Block) → StandsIn files b ↔ IsRoadBlock M P b) → IsMerge files blocks → IsFile 2 P.number bytes blocks
    → IsWalkedFile M P bytes

module _ (P : Rules) (graph : MergedGraph P) (walks : MergedWalks P) (out : List ℕ) where
  pub whole_of : (M : Objects) → IsWholeMerge M P out → IsWholeGraph M P out
  whole_of M w = record {
    graph = subst (IsGraph M P) (sym w.file.spelled) (graph M w.files w.blocks w.stands w.merge);
    walks = walks M w.files w.blocks out w.stands w.merge w.file;
  }

pub with_roads : (M R : Objects) (P : Rules) (out : List ℕ)
    → ((b : Block) → IsRoadBlock M P b ↔ IsRoadBlock R P b) → IsWholeMerge R P out → IsWholeMerge M P out
with_roads M R P out same w = record {
  files = w.files;
  blocks = w.blocks;
  stands = λ b. (λ stands. (same b).1 ((w.stands b).0 stands), λ road. (w.stands b).1 ((same b).0 road));
  merge = w.merge;
  file = w.file;
}

-- ---- the cells, as `map_cells` sees them

-- the cell has the objects of the compiled cell's text
record IsHeld (c : CompiledCell) (z : Cell) : Type 0 where
  objects : AreObjectsOf c.text z.objects
  area : z.area ≡ c.cut.area
  cell : z.cell ≡ c.cut.cell

record AreHeld (list : List CompiledCell) : Type 0 where
  cells : List Cell
  are : AllZip IsHeld list cells
  same : map (λ c. c.cut.cell) list ≡ map (λ z. z.cell) cells

held : (list : List CompiledCell) → ((c : CompiledCell) → Contains list c → (O : Objects) × AreObjectsOf c.text O)
    → AreHeld list
held [] objects = record { cells = []; are = tt; same = refl }
held (c ∷ cs) objects =
    let O = objects c (contains_head c cs) in
    let rest = held cs (λ d has. objects d (contains_later c d cs has)) in
    record {
      cells = record { objects = O.0; area = c.cut.area; cell = c.cut.cell } ∷ rest.cells;
      are = (record { objects = O.1; area = refl; cell = refl }, rest.are);
      same = ap (λ l. c.cut.cell ∷ l) rest.same;
    }

-- ---- a compiled map

module _ (M : Objects) (profile : ProfileNumber) (cells : List CompiledCell) (cuts : List CompiledWays)
    (is : IsCompiledInCells M profile cells cuts) where
  abbrev rules : Rules
  rules = rules_of (number_of profile)

  all_held : AreHeld cells
  all_held = held cells (λ c has. cell_objects M profile c (is.each c has))

  are_cells : AreCells M all_held.cells
  are_cells = record {
    inside = λ z has.
        let c = left_of IsHeld cells all_held.cells all_held.are z has in
        subst (λ a. IsInside z.cell a) (sym (c.2).area)
        (subst (λ a. IsInside a (c.0).cut.area) (sym (c.2).cell) (is.each c.0 c.1).inside);
    cut = λ z has.
        let c = left_of IsHeld cells all_held.cells all_held.are z has in
        subst (λ a. IsCell M z.objects a) (sym (c.2).area) ((is.each c.0 c.1).kept z.objects (c.2).objects);
    cover = subst (CoverNodes M) all_held.same is.cover;
  }

  module _ (graphs : List (List ℕ)) (are : AreAllGraphs cells cuts graphs) where
    among_file : (g : List ℕ) → IsGraphAmong cells cuts g → IsFileOf M rules g
    among_file g (inl (c, has, e)) = subst (IsFileOf M rules) (sym e) (cell_file M profile c (is.each c has))
    among_file g (inr (d, has, e)) = subst (IsFileOf M rules) (sym e) (ways_file M profile d (is.cut_out d has))

    each_file : (g : List ℕ) → Contains graphs g → IsFileOf M rules g
    each_file g has = among_file g (are.each g has)

    module _ (one_reading : OneReading) (one_map : OneMap)
        (owners : (zs : List Cell) (b : Block) → AreCells M zs → IsRoadBlock M rules b → HasOneOwner M zs b.way) where
      owned_block : (c : CompiledCell) → Contains cells c → (b : Block) → IsRoadBlock M rules b
          → HasIn rules c.graph b ⊎ IsNamed c.rest b.way → (g : List ℕ) × Contains graphs g × HasIn rules g b
      owned_block c has b road (inl here) = (c.graph, are.of_cells c has, here)
      owned_block c has b road (inr named) =
          let (d, of, among) = is.named c b.way has named in
          (d.graph, are.of_cuts d of, ways_has M profile d (is.cut_out d of) b among road)

      all_blocks : (b : Block) → IsRoadBlock M rules b → (g : List ℕ) × Contains graphs g × HasIn rules g b
      all_blocks b road =
          let owner = owners all_held.cells b are_cells road in
          let c = left_of IsHeld cells all_held.cells all_held.are owner.owner owner.listed in
          let own : IsOwn owner.owner.objects (c.0).cut.cell b.way
          = subst (λ a. IsOwn owner.owner.objects a b.way) (c.2).cell owner.owns in
          owned_block c.0 c.1 b road (own_block M profile c.0 (is.each c.0 c.1) one_reading one_map
          owner.owner.objects (c.2).objects b own road)

      module _ (one : OneFront) (in_ranges : (ranges : List MergedRange) (out : List ℕ) → AreMergedRanges graphs ranges
          → AreJoined (map (λ r. r.graph) ranges) out → IsMerged (all_bytes graphs) out) where
        put_together : (out : List ℕ) → ArePutTogether graphs out → IsMerged (all_bytes graphs) out
        put_together out (AtOnce merged) = given Merge (all_bytes graphs) out merged
        put_together out (ByRanges ranges merged joined) = in_ranges ranges out merged joined

        pub whole_merge : (out : List ℕ) → ArePutTogether graphs out → IsWholeMerge M rules out
        whole_merge out together = merge_whole one M rules graphs each_file all_blocks out (put_together out together)
