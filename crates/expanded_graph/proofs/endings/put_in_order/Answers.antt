-- The sort is by the piece.
use Rattle.std.proofs.Common.{rules, subst}
use Rattle.std.specs.List.Sorted.{IsSortedByKey, IsStableByKey}
use Rattle.std.proofs.lemmas.List.Sorted.{answers_always}
use Rattle.road_model.specs.declared.lists.PieceName.{PieceName}
use Rattle.expanded_graph.specs.declared.endings.Ending.{Ending}
use Rattle.expanded_graph.proofs.endings.put_in_order.Goals as goal

abbrev piece : Ending → PieceName
piece e = e.piece

pub returns-clause-sorted : goal.returns-clause-sorted
returns-clause-sorted c =
    subst (λ R. IsSortedByKey piece R c.sort_by_key.new.self.items) (λ i a b. c.name_order.ensures.by_cmp a b i)
    (c.in_ok-sort_by_key.ensures.sorted piece (answers_always _ _ _ (λ f a r g called. search rules)))

pub returns-clause-stable : goal.returns-clause-stable
returns-clause-stable c =
    subst (λ R. IsStableByKey piece R c.args.endings.now.items c.sort_by_key.new.self.items)
    (λ i a b. c.name_order.ensures.by_cmp a b i)
    (c.in_ok-sort_by_key.ensures.stable piece (answers_always _ _ _ (λ f a r g called. search rules)))
