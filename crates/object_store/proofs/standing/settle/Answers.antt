use Rattle.std.proofs.Common.{rules, ℕ, Bool}
use Rattle.road_base.specs.contracts.ids.KeyPartialEq.TheImpl.{ghosts as equality}
use Rattle.std.specs.declared.cmp.Reverse.{Reverse}
use Rattle.std.proofs.lemmas.Fn.{dedup_same}
use Rattle.std.proofs.lemmas.List.Sorted.{answers_always}
use Rattle.road_base.specs.declared.ids.Key.{Key}
use Rattle.road_base.specs.declared.event.Event.{Event}
use Rattle.object_store.proofs.StableSort.{settled_by, in_order_by}
use Rattle.object_store.proofs.standing.settle.Goals as goal

abbrev rank : Event → Key × Reverse ℕ
rank e = (e.key, record { 0 = e.version })

abbrev same : Event → Event → Bool
same x y = equality.eq x.key y.key

pub returns-clause-applied : goal.returns-clause-applied
returns-clause-applied c =
    let sorted = c.in_ok-sort_by_key.ensures.sorted rank (answers_always _ _ _ (λ f a r g called. search rules)) in
    let stable = c.in_ok-sort_by_key.ensures.stable rank (answers_always _ _ _ (λ f a r g called. search rules)) in
    let left = dedup_same _ same _ (λ x y b f' x' y' k. search rules) _ _ c.dedup_by_key.ensures.filtered in
    settled_by c.key_order.ensures.total _ c.key_order.ensures.by_cmp _ c.key_order.ensures.by_eq _ _ _
    c.in_ok-sort_by_key.ensures.permutation sorted stable left

pub returns-clause-in_order : goal.returns-clause-in_order
returns-clause-in_order c =
    let sorted = c.in_ok-sort_by_key.ensures.sorted rank (answers_always _ _ _ (λ f a r g called. search rules)) in
    let left = dedup_same _ same _ (λ x y b f' x' y' k. search rules) _ _ c.dedup_by_key.ensures.filtered in
    in_order_by c.key_order.ensures.total _ c.key_order.ensures.by_cmp _ c.key_order.ensures.by_eq _ _ sorted left
