-- The sort is by the target.
use Rattle.std.proofs.Common.{rules, List}
use Rattle.std.specs.Ordering.{is_lt}
use Rattle.std.proofs.lemmas.List.Sorted.{answers_always, ranks_by}
use Rattle.road_model.specs.declared.lists.PieceName.{PieceName}
use Rattle.road_model.specs.Orders.{names_cmp}
use Rattle.expanded_graph.specs.declared.sources.Leading.{Leading}
use Rattle.expanded_graph.proofs.attached.sort_by_target.Goals as goal

abbrev target : Leading → List PieceName
target l = l.before

pub returns-clause-sorted : goal.returns-clause-sorted
returns-clause-sorted c =
    c.in_ok-sort_by.ensures.sorted (λ x y. is_lt (names_cmp x.before y.before))
    (ranks_by c.name_order.ensures.lists target) (answers_always _ _ _ (λ f a r q k. search rules))

pub returns-clause-stable : goal.returns-clause-stable
returns-clause-stable c =
    c.in_ok-sort_by.ensures.stable (λ x y. is_lt (names_cmp x.before y.before))
    (ranks_by c.name_order.ensures.lists target) (answers_always _ _ _ (λ f a r q k. search rules))
