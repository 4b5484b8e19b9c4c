-- The orders of ways, names and lists of names are total.
use Rattle.std.proofs.Common.{IsTrue, Ordering, ◌⊎◌, inl, inr, ◌≡◌, length, refl}
use Rattle.std.specs.declared.cmp.Ordering.TheVariants.{Less, Equal, Greater}
use Rattle.std.specs.Ordering.{ordering_reverse, ordering_then, is_lt}
use Rattle.std.specs.Cmp.{IsTotalOrder}
use Rattle.std.specs.FinMap.{IsAntisymmetric, int_cmp-IsAntisymmetric, nat_cmp-IsAntisymmetric}
use Rattle.std.specs.FinMap.{slice_cmp-IsAntisymmetric}
use Rattle.std.proofs.lemmas.Cmp.{nat_cmp_total, int_cmp_total, on_total, then_total, lists_total}
use Rattle.road_base.specs.declared.ids.NodeId.{NodeId}
use Rattle.road_base.specs.declared.ids.WayId.{WayId}
use Rattle.road_base.specs.declared.ids.RelationId.{RelationId}
use Rattle.road_base.specs.declared.ids.Dir.{Dir}
use Rattle.road_base.specs.declared.ids.Dir.TheVariants.{Forward, Backward}
use Rattle.road_model.specs.declared.lists.PieceName.{PieceName}
use Rattle.road_model.specs.Orders.{node_cmp, way_cmp, relation_cmp, dir_cmp, name_cmp, names_cmp}

pub node_cmp_total : IsTotalOrder node_cmp
node_cmp_total = on_total (λ (n : NodeId). n.0) int_cmp_total

pub relation_cmp_total : IsTotalOrder relation_cmp
relation_cmp_total = on_total (λ (r : RelationId). r.0) int_cmp_total

pub way_cmp_total : IsTotalOrder way_cmp
way_cmp_total = on_total (λ (w : WayId). w.0) int_cmp_total

pub dir_cases : (d : Dir) → (d ≡ Forward) ⊎ (d ≡ Backward)
dir_cases Forward = inl refl
dir_cases Backward = inr refl

dir_antisymm : (a b : Dir) → dir_cmp a b ≡ ordering_reverse (dir_cmp b a)
dir_antisymm Forward Forward = refl
dir_antisymm Forward Backward = refl
dir_antisymm Backward Forward = refl
dir_antisymm Backward Backward = refl

dir_trans : (a b c : Dir) → dir_cmp a b ≡ Less → dir_cmp b c ≡ Less → dir_cmp a c ≡ Less
dir_trans Forward Forward c h k = k
dir_trans Forward Backward Forward h k = cc
dir_trans Forward Backward Backward h k = refl
dir_trans Backward Forward c h k = cc
dir_trans Backward Backward c h k = k

dir_congr : (a b c : Dir) → dir_cmp a b ≡ Equal → dir_cmp a c ≡ dir_cmp b c
dir_congr Forward Forward c h = refl
dir_congr Forward Backward c h = cc
dir_congr Backward Forward c h = cc
dir_congr Backward Backward c h = refl

pub dir_cmp_total : IsTotalOrder dir_cmp
dir_cmp_total = record { antisymm = dir_antisymm; trans = dir_trans; congr = dir_congr }

pub name_cmp_total : IsTotalOrder name_cmp
name_cmp_total = then_total (on_total (λ (n : PieceName). n.way) way_cmp_total)
    (then_total (on_total (λ (n : PieceName). n.index) nat_cmp_total)
    (on_total (λ (n : PieceName). n.dir) dir_cmp_total))

pub names_cmp_total : IsTotalOrder names_cmp
names_cmp_total = then_total (on_total length nat_cmp_total) (lists_total name_cmp_total)

pub node_cmp_exact : IsAntisymmetric node_cmp
node_cmp_exact a b e = let f = int_cmp-IsAntisymmetric a.0 b.0 e in λ i. record { 0 = f i }

pub relation_cmp_exact : IsAntisymmetric relation_cmp
relation_cmp_exact a b e = let f = int_cmp-IsAntisymmetric a.0 b.0 e in λ i. record { 0 = f i }

pub way_cmp_exact : IsAntisymmetric way_cmp
way_cmp_exact a b e = let f = int_cmp-IsAntisymmetric a.0 b.0 e in λ i. record { 0 = f i }

pub then_equal : (r s : Ordering) → ordering_then r s ≡ Equal → (r ≡ Equal) × (s ≡ Equal)
then_equal Less s e = cc
then_equal Equal s e = (refl, e)
then_equal Greater s e = cc

pub less_first : (r s : Ordering) → r ≡ Less → IsTrue (is_lt (ordering_then r s))
less_first r s e = rw e refl

dir_cmp_exact : IsAntisymmetric dir_cmp
dir_cmp_exact Forward Forward e = refl
dir_cmp_exact Forward Backward e = cc
dir_cmp_exact Backward Forward e = cc
dir_cmp_exact Backward Backward e = refl

pub name_cmp_exact : IsAntisymmetric name_cmp
name_cmp_exact a b e =
    let p = then_equal _ _ e in
    let q = then_equal _ _ p.1 in
    let w = way_cmp_exact a.way b.way p.0 in
    let i = nat_cmp-IsAntisymmetric a.index b.index q.0 in
    let d = dir_cmp_exact a.dir b.dir q.1 in
    λ x. record { way = w x; index = i x; dir = d x }

pub names_cmp_exact : IsAntisymmetric names_cmp
names_cmp_exact a b e = slice_cmp-IsAntisymmetric name_cmp_exact a b (then_equal _ _ e).1
