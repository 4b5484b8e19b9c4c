-- The order of steps is total, and only equal steps tie in it.
use Rattle.std.proofs.Common.{◌≡◌, refl}
use Rattle.std.specs.declared.cmp.Ordering.TheVariants.{Less, Equal}
use Rattle.std.specs.Ordering.{nat_cmp, int_cmp, ordering_reverse, ordering_then}
use Rattle.std.specs.Cmp.{IsTotalOrder}
use Rattle.std.specs.FinMap.{IsAntisymmetric, int_cmp-IsAntisymmetric, nat_cmp-IsAntisymmetric}
use Rattle.std.proofs.lemmas.Cmp.{nat_cmp_total, int_cmp_total, on_total, then_total, lists_total}
use Rattle.road_base.specs.declared.ids.Dir.{Dir}
use Rattle.road_base.specs.declared.ids.Dir.TheVariants.{Forward, Backward}
use Rattle.road_base.specs.declared.ids.Step.{Step}
use Rattle.road_base.specs.contracts.ids.StepOrd.TheImpl.{ghosts as step_order}
use Rattle.road_base.specs.contracts.ids.DirOrd.TheImpl.{ghosts as dir_order}
use Rattle.drive_judging.specs.DriveWords.{steps_cmp}
use Rattle.road_model.proofs.TotalOrders.{then_equal}
use Rattle.turn_automata.proofs.Keys.{dir_exact}

dir_antisymm : (a b : Dir) → dir_order.cmp a b ≡ ordering_reverse (dir_order.cmp b a)
dir_antisymm Forward Forward = refl
dir_antisymm Forward Backward = refl
dir_antisymm Backward Forward = refl
dir_antisymm Backward Backward = refl

dir_trans : (a b c : Dir) → dir_order.cmp a b ≡ Less → dir_order.cmp b c ≡ Less → dir_order.cmp a c ≡ Less
dir_trans Forward Forward c h k = k
dir_trans Forward Backward Forward h k = cc
dir_trans Forward Backward Backward h k = refl
dir_trans Backward Forward c h k = cc
dir_trans Backward Backward c h k = k

dir_congr : (a b c : Dir) → dir_order.cmp a b ≡ Equal → dir_order.cmp a c ≡ dir_order.cmp b c
dir_congr Forward Forward c h = refl
dir_congr Forward Backward c h = cc
dir_congr Backward Forward c h = cc
dir_congr Backward Backward c h = refl

dir_total : IsTotalOrder dir_order.cmp
dir_total = record { antisymm = dir_antisymm; trans = dir_trans; congr = dir_congr }

pub step_total : IsTotalOrder step_order.cmp
step_total = then_total (on_total (λ (s : Step). s.way.0) int_cmp_total)
    (then_total (on_total (λ (s : Step). s.index) nat_cmp_total) (on_total (λ (s : Step). s.dir) dir_total))

pub step_ties : IsAntisymmetric step_order.cmp
step_ties a b h =
    let p = then_equal (int_cmp a.way.0 b.way.0) (ordering_then (nat_cmp a.index b.index) (dir_order.cmp a.dir b.dir)) h
    in
    let q = then_equal (nat_cmp a.index b.index) (dir_order.cmp a.dir b.dir) p.1 in
    let w = int_cmp-IsAntisymmetric a.way.0 b.way.0 p.0 in
    let i = nat_cmp-IsAntisymmetric a.index b.index q.0 in
    let d = dir_exact a.dir b.dir q.1 in
    λ j. record { way = record { 0 = w j }; index = i j; dir = d j }

pub steps_total : IsTotalOrder steps_cmp
steps_total = lists_total step_total
