-- The sort is by the node.
use Rattle.std.proofs.Common.{rules}
use Rattle.std.proofs.lemmas.List.Sorted.{answers_always}
use Rattle.road_base.specs.declared.ids.NodeId.{NodeId}
use Rattle.way_pieces.specs.declared.at_nodes.AtNode.{AtNode}
use Rattle.way_pieces.proofs.at_nodes.put_in_order.Goals as goal

abbrev node : {A : Type 0} → AtNode A → NodeId
node s = s.node

pub returns-clause-sorted : goal.returns-clause-sorted
returns-clause-sorted g c = c.in_ok-sort_by_key.ensures.sorted node
    (answers_always _ _ _ (λ f a r g called. search rules))

pub returns-clause-stable : goal.returns-clause-stable
returns-clause-stable g c = c.in_ok-sort_by_key.ensures.stable node
    (answers_always _ _ _ (λ f a r g called. search rules))
