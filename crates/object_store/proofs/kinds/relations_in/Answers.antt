-- Relations stand last.
use Rattle.std.proofs.Common.{rules, not, sym, ◌∙◌, subst}
use Rattle.std.proofs.lemmas.List.Sorted.{IsPartitionPoint-from_clause}
use Rattle.road_base.specs.declared.event.Event.{Event}
use Rattle.object_store.specs.Listed.{is_relation, IsInOrder}
use Rattle.object_store.proofs.KindsInOrder.{drop_in_order, behind, others_below, parted, two_parts, relations_left}
use Rattle.object_store.proofs.kinds.relations_in.Goals as goal

pub returns-clause-relations : goal.returns-clause-relations
returns-clause-relations c =
    let q = λ (e : Event). not (is_relation e.key) in
    let list = c.args.list.now in
    let from = c.partition_point-from.result in
    let point = IsPartitionPoint-from_clause q list from c.partition_point-from.ensures.partitioned
    (parted c.key_order.ensures.total (λ k. not (is_relation k)) others_below list c.requires)
    (λ a r f k. search rules) in
    behind from list ∙ (two_parts q list from c.partition_point-from.ensures.bound point).1 ∙ relations_left list

pub returns-clause-in_order : goal.returns-clause-in_order
returns-clause-in_order c =
    subst IsInOrder (sym (behind c.partition_point-from.result c.args.list.now))
    (drop_in_order c.partition_point-from.result c.args.list.now c.requires)
