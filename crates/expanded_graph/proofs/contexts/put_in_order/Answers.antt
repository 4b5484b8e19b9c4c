-- Sorted by names that differ, contexts ascend.
use Rattle.std.proofs.Common.{rules, map}
use Rattle.std.specs.Ordering.{is_lt, eq_by_cmp}
use Rattle.std.proofs.lemmas.Cmp.{eq_by_cmp_equiv}
use Rattle.std.proofs.lemmas.List.Sorted.{answers_always, ranks_by, IsPermutation-map}
use Rattle.std.proofs.lemmas.Map.Keys.{IsDistinct-IsPermutation}
use Rattle.road_model.specs.Orders.{names_cmp}
use Rattle.expanded_graph.proofs.ContextLists.{before_of}
use Rattle.expanded_graph.proofs.DistinctNames.{ascends}
use Rattle.expanded_graph.proofs.contexts.put_in_order.Goals as goal

pub returns-clause-ascending : goal.returns-clause-ascending
returns-clause-ascending c =
    let total = c.name_order.ensures.lists in
    let sorted =
    c.in_ok-sort_by.ensures.sorted (λ x y. is_lt (names_cmp x.before y.before)) (ranks_by total before_of)
    (answers_always _ _ _ (λ f a r q k. search rules)) in
    ascends before_of names_cmp total c.sort_by.new.self.items sorted
    (IsDistinct-IsPermutation (eq_by_cmp names_cmp) (eq_by_cmp_equiv total).symm
    (map before_of c.args.contexts.now.items) (map before_of c.sort_by.new.self.items)
    (IsPermutation-map before_of _ _ c.in_ok-sort_by.ensures.permutation) c.requires)
