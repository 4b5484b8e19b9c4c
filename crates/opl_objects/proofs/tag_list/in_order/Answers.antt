use Rattle.std.proofs.Common.{rules, ◌≡◌, ◌∙◌}
use Rattle.std.specs.Ordering.{is_lt}
use Rattle.std.proofs.lemmas.Fn.{always_returns_same, dedup_same}
use Rattle.opl_objects.proofs.ContentsSortedTags.{by_key, same_key, by_key-order, values_sorted, ascending_deduped}
use Rattle.opl_objects.proofs.ContentsSortedTags.{values_deduped}
use Rattle.opl_objects.proofs.tag_list.in_order.Goals as goal

pub returns-clause-ascending : goal.returns-clause-ascending
returns-clause-ascending c =
    let left = dedup_same _ same_key _ (λ x y b f' x' y' k. search rules) _ _ c.dedup_by.ensures.filtered in
    let sorted = c.in_ok-sort_by.ensures.sorted by_key by_key-order
    (always_returns_same _ (λ a r. is_lt r ≡ by_key a.0.now a.1.0.now) _ (λ a r f' k. search rules)) in
    rw left (ascending_deduped c.sort_by.new.self.items sorted)

pub returns-clause-values : goal.returns-clause-values
returns-clause-values c = λ key.
    let left = dedup_same _ same_key _ (λ x y b f' x' y' k. search rules) _ _ c.dedup_by.ensures.filtered in
    let sorted = c.in_ok-sort_by.ensures.sorted by_key by_key-order
    (always_returns_same _ (λ a r. is_lt r ≡ by_key a.0.now a.1.0.now) _ (λ a r f' k. search rules)) in
    let stable = c.in_ok-sort_by.ensures.stable by_key by_key-order
    (always_returns_same _ (λ a r. is_lt r ≡ by_key a.0.now a.1.0.now) _ (λ a r f' k. search rules)) in
    rw left (values_deduped c.sort_by.new.self.items sorted key
    ∙ values_sorted c.args.list.items c.sort_by.new.self.items stable key)
