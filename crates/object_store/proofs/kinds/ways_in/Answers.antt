-- Behind the nodes stand ways and relations, and of those the ways first.
use Rattle.std.proofs.Common.{◌-◌, rules, not, List, length, filter, take, drop, sym, ap, ◌∙◌, subst}
use Rattle.std.proofs.lemmas.List.Sorted.{IsPartitionPoint-from_clause}
use Rattle.road_base.specs.declared.event.Event.{Event}
use Rattle.object_store.specs.Listed.{is_node, is_relation, IsInOrder}
use Rattle.object_store.proofs.ChangedKeys.{take_in_order}
use Rattle.object_store.proofs.KindsInOrder.{drop_in_order, behind, nodes_below, others_below, parted, two_parts}
use Rattle.object_store.proofs.KindsInOrder.{ways_left}
use Rattle.object_store.proofs.kinds.ways_in.Goals as goal

pub returns-clause-ways : goal.returns-clause-ways
returns-clause-ways c =
    let p = λ (e : Event). is_node e.key in
    let q = λ (e : Event). not (is_relation e.key) in
    let list = c.args.list.now in
    let from = c.partition_point-from.result in
    let count = c.partition_point-count.result in
    let others : List Event = take (length list - from) (drop from list) in
    let ordered : IsInOrder others = subst IsInOrder (sym (behind from list)) (drop_in_order from list c.requires) in
    let first = IsPartitionPoint-from_clause p list from c.partition_point-from.ensures.partitioned
    (parted c.key_order.ensures.total is_node nodes_below list c.requires) (λ a r f k. search rules) in
    let second = IsPartitionPoint-from_clause q others count c.partition_point-count.ensures.partitioned
    (parted c.key_order.ensures.total (λ k. not (is_relation k)) others_below others ordered)
    (λ a r f k. search rules) in
    (two_parts q others count c.partition_point-count.ensures.bound second).0
    ∙ ap (λ l. filter q l) (behind from list ∙ (two_parts p list from c.partition_point-from.ensures.bound first).1)
    ∙ ways_left list

pub returns-clause-in_order : goal.returns-clause-in_order
returns-clause-in_order c =
    take_in_order c.partition_point-count.result _
    (subst IsInOrder (sym (behind c.partition_point-from.result c.args.list.now))
    (drop_in_order c.partition_point-from.result c.args.list.now c.requires))
