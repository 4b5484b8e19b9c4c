-- What leaves or comes to nodes, by the node.
use Rattle.std.specs.Prelude.{List, map, filter}
use Rattle.std.specs.List.Sorted.{IsSortedByKey}
use Rattle.road_base.specs.declared.ids.NodeId.{NodeId}
use Rattle.road_model.specs.declared.lists.PieceName.{PieceName}
use Rattle.road_model.specs.Lines.{same_node}
use Rattle.road_model.specs.Orders.{node_cmp, name_cmp}
use Rattle.ordered_lists.specs.Orders.{Lists}
use Rattle.way_pieces.specs.declared.at_nodes.AtNode.{AtNode}

-- those at the node, in their order
abbrev pub items_at : {A : Type 0} → NodeId → List (AtNode A) → List A
items_at v xs = map (λ s. s.item) (filter (λ s. same_node s.node v) xs)

-- they ascend by node, and those at a node are exactly those that are asked for there, ascending by name
pub record AreByNode {A : Type 0} (name : A → PieceName) (Is : NodeId → A → Type 0) (xs : List (AtNode A))
    : Type 0 where
  pub ascending : IsSortedByKey (λ s. s.node) node_cmp xs
  pub exactly : (v : NodeId) → Lists name name_cmp (Is v) (items_at v xs)
