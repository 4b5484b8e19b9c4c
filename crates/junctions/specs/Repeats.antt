-- How often a node stands in a list, and how it is remembered.
use Rattle.std.specs.Prelude.{◌≡◌, ℕ, zero, suc, ◌+◌, nat_lt, List, [], ◌∷◌, map, Bool, true, false, cond, Option, Some}
use Rattle.std.specs.Prelude.{None}
use Rattle.std.specs.BTreeMap.{BTreeMap, get}
use Rattle.road_base.specs.declared.ids.NodeId.{NodeId}
use Rattle.road_model.specs.Lines.{same_node}
use Rattle.road_model.specs.Orders.{node_cmp}
use Rattle.way_lines.specs.declared.road_line.LineNode.{LineNode}

-- the nodes of a line
abbrev pub nodes_of : List LineNode → List NodeId
nodes_of line = map (λ n. n.node) line

-- how often the node stands in the list
abbrev pub times : NodeId → List NodeId → ℕ
times n [] = 0
times n (m ∷ ms) = cond (same_node n m) 1 0 + times n ms

-- the node stands in the list more than once
abbrev pub is_repeated : List NodeId → NodeId → Bool
is_repeated ms n = nat_lt 1 (times n ms)

-- of a node that stands somewhere so often: nothing, or whether that is more than once
abbrev pub mark : ℕ → Option Bool
mark zero = None
mark (suc zero) = Some false
mark (suc (suc n)) = Some true

-- each node is marked by how often it stands in the list
abbrev pub AreMarks : List NodeId → BTreeMap NodeId Bool → Type 0
AreMarks ms marks = (n : NodeId) → get node_cmp marks n ≡ mark (times n ms)

-- the same, where there are marks
abbrev pub MayMark : List NodeId → Option (BTreeMap NodeId Bool) → Type 0
MayMark ms None = Unit {0}
MayMark ms (Some marks) = AreMarks ms marks
