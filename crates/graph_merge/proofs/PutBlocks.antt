-- Blocks of their ways, put one behind another.
use Rattle.std.proofs.Common.{◌≡◌, ℕ, List, ◌∷◌, ◌++◌, inl, inr, sym, subst}
use Rattle.std.specs.List.{AllByRecursion}
use Rattle.road_model.specs.declared.blocks.Block.{Block}
use Rattle.road_model.specs.Format.{IsVersion, is_sourced, IsBlockForm}
use Rattle.ordered_lists.proofs.ListMembers.{In, in_end, contains_from_in, all_at}
use Rattle.graph_file.specs.GraphReading.{IsWayBlock, IsBareBlock, Unless}
use Rattle.graph_file.proofs.GraphFiles.{forms, bare_blocks}

-- the next block is in form
pub form_of_next : (version : ℕ) (all done : List Block) (b : Block) (rest : List Block)
    → AllByRecursion (IsWayBlock (is_sourced version)) all → all ≡ done ++ b ∷ rest
    → IsBlockForm (is_sourced version) b
form_of_next version all done b rest ways is =
    all_at (IsBlockForm (is_sourced version)) all b (forms (is_sourced version) all ways)
    (contains_from_in all b (subst (In b) (sym is) (in_end done b rest)))

-- where neither marks nor sources are spelled the blocks have none
pub bare_unless : (version : ℕ) (bs : List Block) → IsVersion version
    → AllByRecursion (IsWayBlock (is_sourced version)) bs → Unless (is_sourced version) (AllByRecursion IsBareBlock bs)
bare_unless version bs (inl one) ways =
    subst (λ n. Unless (is_sourced n) (AllByRecursion IsBareBlock bs)) (sym one) (bare_blocks version bs ways one)
bare_unless version bs (inr two) ways =
    subst (λ n. Unless (is_sourced n) (AllByRecursion IsBareBlock bs)) (sym two) tt
