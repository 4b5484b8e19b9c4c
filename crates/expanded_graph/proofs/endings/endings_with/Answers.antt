-- The endings with a piece stand between the two places that the binary searches find.
use Rattle.std.proofs.Common.{◌≡◌, ◌-◌, ◌<◌, ◌≤◌, ℕ, List, length, take, drop, true, false, sym, ◌∙◌, arith, rules}
use Rattle.std.proofs.Common.{inl, inr, refl, slice_index_or, Ordering}
use Rattle.std.specs.Ordering.{is_lt, is_le, is_eq}
use Rattle.std.specs.declared.cmp.Ordering.TheVariants.{Less, Equal, Greater}
use Rattle.std.specs.List.{filter}
use Rattle.std.specs.List.Sorted.{IsPartitionPoint, IsPartitionedBy}
use Rattle.std.proofs.lemmas.Bool.{cases_Bool, false≢true}
use Rattle.std.proofs.lemmas.List.Sorted.{IsPartitionPoint-from_clause}
use Rattle.road_model.specs.declared.lists.PieceName.{PieceName}
use Rattle.road_model.specs.Orders.{name_cmp}
use Rattle.expanded_graph.specs.declared.endings.Ending.{Ending}
use Rattle.expanded_graph.specs.Contexts.{same_name}
use Rattle.ordered_lists.proofs.Comparisons.{between}
use Rattle.ordered_lists.proofs.FilteredLists.{filter_part}
use Rattle.ordered_lists.proofs.SortedParts.{below_parted, upto_parted, low_first, part_together}
use Rattle.expanded_graph.proofs.endings.endings_with.Goals as goal

less_apart : (r : Ordering) → is_lt r ≡ true → is_eq r ≡ false
less_apart Less h = refl
less_apart Equal h = cc
less_apart Greater h = cc

equal_upto : (r : Ordering) → is_eq r ≡ true → is_le r ≡ true
equal_upto Less h = cc
equal_upto Equal h = refl
equal_upto Greater h = cc

-- where the first that isn't below the piece is another, none is the piece
none_there : (v : PieceName) (xs : List Ending) (low : ℕ)
    → IsPartitionPoint (λ e. is_lt (name_cmp e.piece v) ≡ true) (λ e. is_lt (name_cmp e.piece v) ≡ false) xs low
    → IsPartitionedBy (λ e. is_le (name_cmp e.piece v)) xs
    → ((d : Ending) → low < length xs → same_name (slice_index_or xs low d).piece v ≡ false) → low ≤ length xs
    → take (low - low) (drop low xs) ≡ filter (λ e. same_name e.piece v) xs
none_there v xs low below parted apart fits =
    sym (filter_part (λ e. same_name e.piece v) xs low (low - low) (omega arith)
    (λ k d l. less_apart _ (below.0 k d (omega arith) l)) (λ k d m l. absurd (omega arith))
    (λ k d m l. elim (cases_Bool (same_name (slice_index_or xs k d).piece v)) [
      | inl same ↦
          let upto = parted low k d (omega arith) l (equal_upto _ same) in
          let first = between _ (below.1 low d (omega arith) (omega arith)) upto in
          absurd (false≢true (sym (apart d (omega arith)) ∙ first))
      | inr other ↦ other
    ]))

pub returns-then-is_apart : goal.returns-then-is_apart
returns-then-is_apart c =
    let v = c.args.piece in
    let xs = c.args.endings.now in
    let total = c.name_order.ensures.names in
    let low = c.partition_point-low.result in
    c.part.ensures
    ∙ none_there v xs low
    (IsPartitionPoint-from_clause (λ e. is_lt (name_cmp e.piece v)) xs low c.partition_point-low.ensures.partitioned
    (below_parted (λ e. e.piece) name_cmp total v xs c.requires) (λ a r q k. search rules))
    (upto_parted (λ e. e.piece) name_cmp total v xs c.requires) (c.is_apart.ensures c.if-is_apart.true)
    c.partition_point-low.ensures.bound

pub part-requires-2-clause-rising : goal.part-requires-2-clause-rising
part-requires-2-clause-rising c =
    let v = c.args.piece in
    let xs = c.args.endings.now in
    let total = c.name_order.ensures.names in
    low_first (λ (e : Ending). e.piece) name_cmp (record { piece = v; state = 0 }) v xs c.partition_point-low.result
    c.partition_point-high.result
    (IsPartitionPoint-from_clause (λ e. is_lt (name_cmp e.piece v)) xs c.partition_point-low.result
    c.partition_point-low.ensures.partitioned (below_parted (λ e. e.piece) name_cmp total v xs c.requires)
    (λ a r q k. search rules))
    (IsPartitionPoint-from_clause (λ e. is_le (name_cmp e.piece v)) xs c.partition_point-high.result
    c.partition_point-high.ensures.partitioned (upto_parted (λ e. e.piece) name_cmp total v xs c.requires)
    (λ a r q k. search rules))
    c.partition_point-low.ensures.bound c.partition_point-high.ensures.bound

pub returns : goal.returns
returns c =
    let v = c.args.piece in
    let xs = c.args.endings.now in
    let total = c.name_order.ensures.names in
    c.part-2.ensures
    ∙ part_together (λ (e : Ending). e.piece) name_cmp (record { piece = v; state = 0 }) v xs
    c.partition_point-low.result c.partition_point-high.result
    (IsPartitionPoint-from_clause (λ e. is_lt (name_cmp e.piece v)) xs c.partition_point-low.result
    c.partition_point-low.ensures.partitioned (below_parted (λ e. e.piece) name_cmp total v xs c.requires)
    (λ a r q k. search rules))
    (IsPartitionPoint-from_clause (λ e. is_le (name_cmp e.piece v)) xs c.partition_point-high.result
    c.partition_point-high.ensures.partitioned (upto_parted (λ e. e.piece) name_cmp total v xs c.requires)
    (λ a r q k. search rules))
    c.partition_point-low.ensures.bound c.partition_point-high.ensures.bound
