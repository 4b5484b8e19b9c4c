-- The order of edges tells all of them apart.
use Rattle.std.proofs.Common.{◌≡◌, ℕ, true, refl}
use Rattle.std.specs.declared.cmp.Ordering.{Ordering}
use Rattle.std.specs.declared.cmp.Ordering.TheVariants.{Equal}
use Rattle.std.specs.Ordering.{nat_cmp, int_cmp, ordering_then}
use Rattle.std.specs.Cmp.{Equal-is}
use Rattle.std.specs.BTreeMap.{is_at}
use Rattle.std.proofs.lemmas.Map.Lookups.{exact_unsigned, exact_signed}
use Rattle.road_base.specs.declared.ids.Dir.{Dir}
use Rattle.road_base.specs.declared.ids.Dir.TheVariants.{Forward, Backward}
use Rattle.road_base.specs.declared.ids.Step.{Step}
use Rattle.road_base.specs.contracts.ids.StepOrd.TheImpl.{ghosts as step_order}
use Rattle.road_base.specs.contracts.ids.DirOrd.TheImpl.{ghosts as dir_order}
use Rattle.turn_automata.specs.Turns.{edge_cmp}
use Rattle.road_model.proofs.TotalOrders.{then_equal}

pub dir_exact : (a b : Dir) → dir_order.cmp a b ≡ Equal → a ≡ b
dir_exact Forward Forward h = refl
dir_exact Forward Backward h = cc
dir_exact Backward Forward h = cc
dir_exact Backward Backward h = refl

step_exact : (a b : Step) → step_order.cmp a b ≡ Equal → a ≡ b
step_exact a b h =
    let p = then_equal (int_cmp a.way.0 b.way.0) (ordering_then (nat_cmp a.index b.index) (dir_order.cmp a.dir b.dir)) h
    in
    let q = then_equal (nat_cmp a.index b.index) (dir_order.cmp a.dir b.dir) p.1 in
    let w = exact_signed a.way.0 b.way.0 p.0 in
    let i = exact_unsigned a.index b.index q.0 in
    let d = dir_exact a.dir b.dir q.1 in
    λ j. record { way = record { 0 = w j }; index = i j; dir = d j }

pub edge_exact : (a b : ℕ × Step) → edge_cmp a b ≡ Equal → a ≡ b
edge_exact a b h =
    let p = then_equal (nat_cmp a.0 b.0) (step_order.cmp a.1 b.1) h in
    let n = exact_unsigned a.0 b.0 p.0 in
    let s = step_exact a.1 b.1 p.1 in
    λ j. (n j, s j)

-- a test that finds an edge finds that one
pub found_exact : {K : Type 0} (R : K → K → Ordering) → ((a b : K) → R a b ≡ Equal → a ≡ b) → (a b : K)
    → is_at (R a) b ≡ true → a ≡ b
found_exact R exact a b h = exact a b ((Equal-is (R a b)).0 h)
