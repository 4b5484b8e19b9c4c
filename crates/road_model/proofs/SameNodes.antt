-- Whether two nodes are one, by their numbers.
use Rattle.std.proofs.Common.{◌≡◌, true, ap}
use Rattle.std.proofs.lemmas.Bool.Decides.{Decides-int_eq}
use Rattle.road_base.specs.declared.ids.NodeId.{NodeId}
use Rattle.road_model.specs.Lines.{same_node}

pub node_from_same : (a b : NodeId) → same_node a b ≡ true → a ≡ b
node_from_same a b e = let same : a.0 ≡ b.0 = (Decides-int_eq a.0 b.0).0 e in λ i. record { 0 = same i }

pub same_from_node : (a b : NodeId) → a ≡ b → same_node a b ≡ true
same_from_node a b e = (Decides-int_eq a.0 b.0).1 (ap (λ n. n.0) e)
