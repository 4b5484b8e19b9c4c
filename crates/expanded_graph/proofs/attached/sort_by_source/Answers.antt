-- Sorted by their sources, and each source left once.
use Rattle.std.proofs.Common.{rules}
use Rattle.std.specs.Ordering.{is_lt}
use Rattle.std.proofs.lemmas.Fn.{dedup_same}
use Rattle.std.proofs.lemmas.List.Sorted.{answers_always, ranks_by}
use Rattle.road_model.specs.Orders.{names_cmp}
use Rattle.expanded_graph.proofs.SourceLists.{source_of}
use Rattle.expanded_graph.proofs.SourceOrder.{same, once_rises, once_from, once_keeps}
use Rattle.expanded_graph.proofs.attached.sort_by_source.Goals as goal

pub returns-clause-ascending : goal.returns-clause-ascending
returns-clause-ascending c =
    let total = c.name_order.ensures.lists in
    let left = dedup_same _ (same source_of names_cmp total) _ (λ x y b f' x' y' k. search rules) _ _
    c.dedup_by.ensures.filtered in
    let sorted = c.in_ok-sort_by.ensures.sorted (λ x y. is_lt (names_cmp x.source y.source))
    (ranks_by total source_of) (answers_always _ _ _ (λ f a r q k. search rules)) in
    once_rises source_of names_cmp total c.sort_by.new.self.items c.dedup_by.new.self.items left sorted

pub returns-clause-exactly : goal.returns-clause-exactly
returns-clause-exactly c = λ l.
    let total = c.name_order.ensures.lists in
    let ties = c.name_order.ensures.list_ties in
    let left = dedup_same _ (same source_of names_cmp total) _ (λ x y b f' x' y' k. search rules) _ _
    c.dedup_by.ensures.filtered in
    let old = c.args.list.now.items in
    let sorted = c.sort_by.new.self.items in
    let moved = c.in_ok-sort_by.ensures.permutation in (
      once_from source_of names_cmp total ties old sorted c.dedup_by.new.self.items moved left l,
      once_keeps source_of names_cmp total ties old sorted c.dedup_by.new.self.items moved left
          c.requires l,
    )
