-- The arcs to a context stand between the two places that the binary searches find.
use Rattle.std.proofs.Common.{rules, ◌∙◌}
use Rattle.std.specs.Ordering.{is_lt, is_le}
use Rattle.std.proofs.lemmas.List.Sorted.{IsPartitionPoint-from_clause}
use Rattle.road_model.specs.Orders.{names_cmp}
use Rattle.expanded_graph.specs.declared.sources.Leading.{Leading}
use Rattle.ordered_lists.proofs.SortedParts.{below_parted, upto_parted, low_first, part_together}
use Rattle.expanded_graph.proofs.attached.leading_to.Goals as goal

pub part-requires-clause-rising : goal.part-requires-clause-rising
part-requires-clause-rising c =
    let v = c.args.before.now in
    let xs = c.args.leading.now in
    let total = c.name_order.ensures.lists in
    low_first (λ (l : Leading). l.before) names_cmp (record { before = v; source = v }) v xs
    c.partition_point-low.result c.partition_point-high.result
    (IsPartitionPoint-from_clause (λ l. is_lt (names_cmp l.before v)) xs c.partition_point-low.result
    c.partition_point-low.ensures.partitioned (below_parted (λ l. l.before) names_cmp total v xs c.requires)
    (λ a r q k. search rules))
    (IsPartitionPoint-from_clause (λ l. is_le (names_cmp l.before v)) xs c.partition_point-high.result
    c.partition_point-high.ensures.partitioned (upto_parted (λ l. l.before) names_cmp total v xs c.requires)
    (λ a r q k. search rules))
    c.partition_point-low.ensures.bound c.partition_point-high.ensures.bound

pub returns : goal.returns
returns c =
    let v = c.args.before.now in
    let xs = c.args.leading.now in
    let total = c.name_order.ensures.lists in
    c.part.ensures
    ∙ part_together (λ (l : Leading). l.before) names_cmp (record { before = v; source = v }) v xs
    c.partition_point-low.result c.partition_point-high.result
    (IsPartitionPoint-from_clause (λ l. is_lt (names_cmp l.before v)) xs c.partition_point-low.result
    c.partition_point-low.ensures.partitioned (below_parted (λ l. l.before) names_cmp total v xs c.requires)
    (λ a r q k. search rules))
    (IsPartitionPoint-from_clause (λ l. is_le (names_cmp l.before v)) xs c.partition_point-high.result
    c.partition_point-high.ensures.partitioned (upto_parted (λ l. l.before) names_cmp total v xs c.requires)
    (λ a r q k. search rules))
    c.partition_point-low.ensures.bound c.partition_point-high.ensures.bound
