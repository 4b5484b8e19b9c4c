-- The bytes of blocks are a graph file.
use Rattle.std.proofs.Common.{◌≡◌, ℕ, ◌<◌, ◌^◌, Bool, List, [], ◌∷◌, length, map, IsTrue, refl, ap, subst, sym, ◌∙◌}
use Rattle.std.specs.List.{AllByRecursion}
use Rattle.std.specs.FinMap.{FinMap, entries, values, empty, insert, entries-insert, put, len-entries, len-empty}
use Rattle.std.specs.Cmp.{IsTotalOrder}
use Rattle.std.proofs.lemmas.Cmp.{int_cmp_total}
use Rattle.std.proofs.lemmas.List.{nil_from_length}
use Rattle.road_base.specs.Profiles.{IsProfile}
use Rattle.road_model.specs.declared.blocks.Block.{Block}
use Rattle.ordered_lists.specs.Orders.{rises}
use Rattle.road_model.specs.Orders.{way_cmp}
use Rattle.road_model.specs.BlockMap.{entry_of}
use Rattle.road_model.specs.Format.{graph_bytes, IsVersion, is_sourced, BlockFits, IsBlockForm, IsGraphFile}
use Rattle.ordered_lists.proofs.SortedMaps.{values_of}

-- the values of a map whose entries are those of the blocks
pub values_are : (m : FinMap way_cmp Block) (bs : List Block) → entries m ≡ map entry_of bs → values m ≡ bs
values_are m bs is = ap (map (λ e. e.1)) is ∙ values_of (λ (b : Block). b.way) bs

-- what the blocks spell is a graph file, if each number fits
pub is_graph_file : (version profile : ℕ) (bs : List Block) → IsVersion version → IsProfile profile
    → IsTrue (rises way_cmp (map (λ b. b.way) bs)) → AllByRecursion (IsBlockForm (is_sourced version)) bs
    → AllByRecursion (BlockFits (is_sourced version)) bs → length bs < 2 ^ 64
    → IsGraphFile (graph_bytes version profile bs)
is_graph_file version profile bs known_version known up forms fit count = record {
  version = version;
  known_version = known_version;
  profile = profile;
  known = known;
  blocks = bs;
  ascend = up;
  forms = forms;
  fit = fit;
  count = count;
  spelled = refl;
}

pub way_cmp_total : IsTotalOrder way_cmp
way_cmp_total = record {
  antisymm = λ x y. int_cmp_total.antisymm x.0 y.0;
  trans = λ x y z. int_cmp_total.trans x.0 y.0 z.0;
  congr = λ x y z. int_cmp_total.congr x.0 y.0 z.0;
}

pub no_entries : entries (empty {X = Block} {R = way_cmp}) ≡ []
no_entries = nil_from_length _ (sym (len-entries empty) ∙ len-empty way_cmp Block)

-- no blocks have a form
pub forms_of_none : (sourced : Bool) (m : FinMap way_cmp Block) → m ≡ empty
    → AllByRecursion (IsBlockForm sourced) (values m)
forms_of_none sourced m is =
    subst (λ es. AllByRecursion (IsBlockForm sourced) (map (λ e. e.1) es)) (sym (ap entries is ∙ no_entries)) tt

-- a single block's form
pub forms_of_one : (sourced : Bool) (m n : FinMap way_cmp Block) (b : Block) → n ≡ empty → m ≡ insert n b.way b
    → IsBlockForm sourced b → AllByRecursion (IsBlockForm sourced) (values m)
forms_of_one sourced m n b none is form =
    let one : entries m ≡ (b.way, b) ∷ [] = ap entries is ∙ entries-insert way_cmp_total n b.way b
    ∙ ap (put way_cmp b.way b) (ap entries none ∙ no_entries) in
    subst (λ es. AllByRecursion (IsBlockForm sourced) (map (λ e. e.1) es)) (sym one) (form, tt)
