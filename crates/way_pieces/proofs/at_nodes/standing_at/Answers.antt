-- Those of a node stand between the two places that the binary searches find.
use Rattle.std.proofs.Common.{rules, ◌∙◌}
use Rattle.std.specs.Ordering.{is_lt, is_le}
use Rattle.std.proofs.lemmas.List.Sorted.{IsPartitionPoint-from_clause}
use Rattle.road_model.specs.Orders.{node_cmp}
use Rattle.ordered_lists.proofs.SortedParts.{below_parted, upto_parted}
use Rattle.road_model.proofs.TotalOrders.{node_cmp_total}
use Rattle.way_pieces.proofs.AtNodes.{rising, together}
use Rattle.way_pieces.proofs.at_nodes.standing_at.Goals as goal

pub part-requires-clause-rising : goal.part-requires-clause-rising
part-requires-clause-rising g c =
    let v = c.args.node in
    let xs = c.args.items.now in
    rising v c.partition_point-low.result c.partition_point-high.result xs
    (IsPartitionPoint-from_clause (λ s. is_lt (node_cmp s.node v)) xs c.partition_point-low.result
    c.partition_point-low.ensures.partitioned (below_parted (λ s. s.node) node_cmp node_cmp_total v xs c.requires)
    (λ a r q k. search rules))
    (IsPartitionPoint-from_clause (λ s. is_le (node_cmp s.node v)) xs c.partition_point-high.result
    c.partition_point-high.ensures.partitioned (upto_parted (λ s. s.node) node_cmp node_cmp_total v xs c.requires)
    (λ a r q k. search rules))
    c.partition_point-low.ensures.bound c.partition_point-high.ensures.bound

pub returns : goal.returns
returns g c =
    let v = c.args.node in
    let xs = c.args.items.now in
    c.part.ensures
    ∙ together v c.partition_point-low.result c.partition_point-high.result xs
    (IsPartitionPoint-from_clause (λ s. is_lt (node_cmp s.node v)) xs c.partition_point-low.result
    c.partition_point-low.ensures.partitioned (below_parted (λ s. s.node) node_cmp node_cmp_total v xs c.requires)
    (λ a r q k. search rules))
    (IsPartitionPoint-from_clause (λ s. is_le (node_cmp s.node v)) xs c.partition_point-high.result
    c.partition_point-high.ensures.partitioned (upto_parted (λ s. s.node) node_cmp node_cmp_total v xs c.requires)
    (λ a r q k. search rules))
    c.partition_point-low.ensures.bound c.partition_point-high.ensures.bound
