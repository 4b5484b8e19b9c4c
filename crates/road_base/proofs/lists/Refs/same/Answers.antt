use Rattle.std.proofs.Common.{◌≡◌, ap}
use Rattle.std.specs.Bool.{Decides}
use Rattle.std.specs.Ordering.{int_eq}
use Rattle.std.proofs.lemmas.Bool.Decides.{Decides-int_eq}
use Rattle.std.proofs.lemmas.Slice.Eq.{slice_eq-Decides}
use Rattle.road_base.specs.declared.ids.NodeId.{NodeId}
use Rattle.road_base.proofs.lists.Refs.same.Goals as goal

node_eq-Decides : (a b : NodeId) → Decides (int_eq a.0 b.0) (a ≡ b)
node_eq-Decides a b = (
  λ e. ap (λ n. record { 0 = n }) ((Decides-int_eq a.0 b.0).0 e),
  λ e. (Decides-int_eq a.0 b.0).1
      (ap (λ (n : NodeId). n.0) e),
)

pub returns : goal.returns
returns c =
    let d = slice_eq-Decides node_eq-Decides c.items.result.now c.items-2.result.now c.eq.result c.eq.ensures in
    (λ h. let e = d.0 h in cc, λ h. d.1 (cc))
