-- The blocks of ways, one way after another.
use Rattle.std.proofs.Common.{◌≡◌, ◌≢◌, ℕ, Bool, true, false, IsTrue, List, [], ◌∷◌, ◌++◌, length, map}
use Rattle.std.proofs.Common.{inl, inr, sym, ap, subst, ◌∙◌, arith}
use Rattle.std.specs.Bool.{◌==◌}
use Rattle.std.specs.Cmp.{IsTotalOrder}
use Rattle.std.specs.declared.cmp.Ordering.TheVariants.{Less}
use Rattle.std.specs.List.{AllByRecursion}
use Rattle.std.proofs.lemmas.Bool.Decides.{nat_tests}
use Rattle.std.proofs.lemmas.List.{map-append, nil_from_length}
use Rattle.road_base.specs.declared.ids.WayId.{WayId}
use Rattle.road_base.specs.Objects.{Objects}
use Rattle.road_model.specs.declared.blocks.Block.{Block}
use Rattle.road_model.specs.Rules.{Rules}
use Rattle.ordered_lists.specs.Orders.{Lists, rises}
use Rattle.road_model.specs.Orders.{way_cmp}
use Rattle.road_model.specs.Blocks.{IsBlock, IsRoadBlock}
use Rattle.road_model.specs.Format.{IsPieceForm, IsBlockForm, IsGraph, place_cmp}
use Rattle.road_model.specs.Naming.{OneBlock}
use Rattle.graph_file.specs.declared.writer.GraphWriter.{GraphWriter}
use Rattle.graph_file.specs.Writing.{HasWritten}
use Rattle.graph_file.specs.GraphReading.{IsFile, IsOfItsWay}
use Rattle.road_model.specs.Highways.{AreRoadWays}
use Rattle.compiled_graph.specs.Building.{HasBlocksOf, HasBlocksAmong, IsBlockAmong}
use Rattle.ordered_lists.proofs.ListMembers.{In, contains_from_in, in_from_contains, contains_more, in_left, in_end}
use Rattle.ordered_lists.proofs.ListMembers.{from_map, all_from}
use Rattle.ordered_lists.proofs.RisingLists.{one_more_rises, below_last}

module _ (M : Objects) (P : Rules) where
  -- a way without pieces has no block
  pub no_pieces : OneBlock M P → (w : WayId) (block : Block) → IsBlock M P w block → block.pieces ≡ []
      → (b : Block) → b.way ≡ w → IsRoadBlock M P b → ⊥
  no_pieces one w block is none b way road =
      let same : b ≡ block = one w b block (subst (λ v. IsBlock M P v b) way road.block) is in
      road.some (ap (λ x. x.pieces) same ∙ none)

  -- one way more may have a block
  among_more : (ways : List WayId) (w : WayId) (b : Block)
      → IsBlockAmong M P ways b → IsBlockAmong M P (ways ++ w ∷ []) b
  among_more ways w b is = record {
    among =
        contains_from_in (ways ++ w ∷ []) b.way (in_left ways (w ∷ []) b.way (in_from_contains ways b.way is.among));
    road = is.road;
  }

  -- a way that has none changes nothing
  pub same_blocks : (ways : List WayId) (w : WayId) (writer : GraphWriter) → HasBlocksOf M P ways writer
      → ((b : Block) → b.way ≡ w → IsRoadBlock M P b → ⊥) → HasBlocksOf M P (ways ++ w ∷ []) writer
  same_blocks ways w writer has none = record {
    blocks = has.blocks;
    listed = record {
      ascending = has.listed.ascending;
      sound = λ b i. among_more ways w b (has.listed.sound b i);
      complete = λ b is.
          elim (contains_more ways w b.way is.among) [
            | inl before ↦ has.listed.complete b (record { among = before; road = is.road })
            | inr last ↦ absurd (none b last is.road)
          ];
    };
    written = has.written;
  }

  -- the block of a way above all others is put behind their blocks
  pub one_more : IsTotalOrder way_cmp → OneBlock M P → (ways : List WayId) (block : Block) (old new : GraphWriter)
      → IsTrue (rises way_cmp (ways ++ block.way ∷ [])) → HasBlocksOf M P ways old → IsRoadBlock M P block
      → ((blocks : List Block) → HasWritten 2 P.number blocks old → HasWritten 2 P.number (blocks ++ block ∷ []) new)
      → HasBlocksOf M P (ways ++ block.way ∷ []) new
  one_more total one ways block old new up has road put = record {
    blocks = has.blocks ++ block ∷ [];
    listed = record {
      ascending = subst (λ l. IsTrue (rises way_cmp l)) (sym (map-append (λ b. b.way) has.blocks (block ∷ [])))
          (one_more_rises way_cmp (map (λ b. b.way) has.blocks) block.way has.listed.ascending lower);
      sound = λ b i.
          elim (contains_more has.blocks block b i) [
            | inl before ↦ among_more ways block.way b (has.listed.sound b before)
            | inr same ↦ subst (λ x. IsBlockAmong M P (ways ++ block.way ∷ []) x) (sym same) (record {
              among = contains_from_in (ways ++ block.way ∷ []) block.way (in_end ways block.way []);
              road = road;
            })
          ];
      complete = λ b is. contains_from_in (has.blocks ++ block ∷ []) b (
          elim (contains_more ways block.way b.way is.among) [
            | inl before ↦
                in_left has.blocks (block ∷ []) b
                (in_from_contains has.blocks b (has.listed.complete b (record { among = before; road = is.road })))
            | inr last ↦
                let own = subst (λ v. IsBlock M P v b) last is.road.block in
                let same : b ≡ block = one block.way b block own road.block in
                subst (λ x. In x (has.blocks ++ block ∷ [])) (sym same) (in_end has.blocks block [])
          ]);
    };
    written = put has.blocks has.written;
  }
    where
      lower : (w : WayId) → In w (map (λ (b : Block). b.way) has.blocks) → way_cmp w block.way ≡ Less
      lower w i =
          let from = from_map (λ (b : Block). b.way) has.blocks w i in
          let among = (has.listed.sound from.0 (contains_from_in has.blocks from.0 from.1)).among in
          below_last way_cmp total ways block.way up w
          (subst (λ v. In v ways) (sym from.2) (in_from_contains ways from.0.way among))

  -- the pieces of a road's block are named by its way
  of_its_way : (b : Block) → IsRoadBlock M P b → IsOfItsWay b
  of_its_way b road = all_from (λ p. p.name.way ≡ b.way) b.pieces (λ p i.
      let e = road.block.pieces.sound p i in ap (λ n. n.way) e.named ∙ e.of)

  -- what was written is a file with the blocks of the ways
  pub part_file : (ways : List WayId) (writer : GraphWriter) (bytes : List ℕ) → HasBlocksOf M P ways writer
      → ((blocks : List Block) → HasWritten 2 P.number blocks writer → IsTrue (rises way_cmp (map (λ b. b.way) blocks))
      → AllByRecursion IsOfItsWay blocks → IsFile 2 P.number bytes blocks)
      → HasBlocksAmong M P ways bytes
  part_file ways writer bytes has file = record {
    blocks = has.blocks;
    listed = has.listed;
    file = file has.blocks has.written has.listed.ascending
        (all_from IsOfItsWay has.blocks (λ b i. of_its_way b (has.listed.sound b i).road));
  }

  -- the blocks of all roads are all road blocks
  pub all_listed : (ways : List WayId) (bytes : List ℕ) → AreRoadWays M P ways → (has : HasBlocksAmong M P ways bytes)
      → Lists (λ (b : Block). b.way) way_cmp (IsRoadBlock M P) has.blocks
  all_listed ways bytes all has = record {
    ascending = has.listed.ascending;
    sound = λ b i. (has.listed.sound b i).road;
    complete = λ b road. has.listed.complete b (record { among = all.all b road; road = road });
  }

  -- and so the graph
  pub whole_graph : (ways : List WayId) (bytes : List ℕ) → AreRoadWays M P ways → HasBlocksAmong M P ways bytes
      → IsGraph M P bytes
  whole_graph ways bytes all has = record {
    blocks = has.blocks;
    listed = all_listed ways bytes all has;
    spelled = has.file.spelled;
  }

  -- the file of all roads has what a law says of the files of all roads
  pub whole_file : (Q : List ℕ → Type 0) (ways : List WayId) (bytes : List ℕ)
      → AreRoadWays M P ways → HasBlocksAmong M P ways bytes
      → ((file : List ℕ) (blocks : List Block) → Lists (λ b. b.way) way_cmp (IsRoadBlock M P) blocks
      → IsFile 2 P.number file blocks → Q file)
      → Q bytes
  whole_file Q ways bytes all has law = law bytes has.blocks (all_listed ways bytes all has) has.file

-- a block with pieces has the form that is written
pub block_form : (b : Block) → (b.pieces ≡ [] → ⊥) → AllByRecursion (IsPieceForm true) b.pieces
    → IsTrue (rises place_cmp (map (λ p. p.name) b.pieces)) → IsBlockForm true b
block_form b some pieces ascend = record { some = some; ascend = ascend; pieces = pieces }

-- ---- lists that are empty or not

zero_by_test : (n : ℕ) (t : Bool) → t ≡ (n == 0) → t ≡ true → n ≡ 0
zero_by_test n t e h = grind (arith, nat_tests)

some_by_test_of : (n : ℕ) (t : Bool) → t ≡ (n == 0) → t ≡ false → n ≢ 0
some_by_test_of n t e h = λ z. absurd (grind (arith, nat_tests))

pub empty_by_test : {A : Type 0} (l : List A) (t : Bool) → t ≡ (length l == 0) → t ≡ true → l ≡ []
empty_by_test l t e h = nil_from_length l (zero_by_test (length l) t e h)

pub some_by_test : {A : Type 0} (l : List A) (t : Bool) → t ≡ (length l == 0) → t ≡ false → l ≡ [] → ⊥
some_by_test l t e h none = some_by_test_of (length l) t e h (ap length none)
