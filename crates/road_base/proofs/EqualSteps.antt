-- Equality of steps is that of values.
use Rattle.std.proofs.Common.{◌≡◌, true, ◌&&◌, nat_eq, int_eq, refl}
use Rattle.std.proofs.lemmas.Bool.{and_parts, and_from, false≢true}
use Rattle.std.proofs.lemmas.Bool.Decides.{Decides-eqb, Decides-int_eq}
use Rattle.road_base.specs.declared.ids.Step.{Step}
use Rattle.road_base.specs.declared.ids.Dir.{Dir}
use Rattle.road_base.specs.declared.ids.Dir.TheVariants.{Forward, Backward}
use Rattle.road_base.specs.contracts.ids.DirPartialEq.TheImpl.{ghosts as dir_equality}
use Rattle.road_base.specs.contracts.ids.StepPartialEq.TheImpl.{ghosts as step_equality}

dir_same : (a b : Dir) → dir_equality.eq a b ≡ true → a ≡ b
dir_same Forward Forward h = refl
dir_same Forward Backward h = absurd (false≢true h)
dir_same Backward Forward h = absurd (false≢true h)
dir_same Backward Backward h = refl

dir_itself : (a : Dir) → dir_equality.eq a a ≡ true
dir_itself Forward = refl
dir_itself Backward = refl

pub step_same : (a b : Step) → step_equality.eq a b ≡ true → a ≡ b
step_same a b h =
    let p = and_parts (int_eq a.way.0 b.way.0) (nat_eq a.index b.index && dir_equality.eq a.dir b.dir) h in
    let q = and_parts (nat_eq a.index b.index) (dir_equality.eq a.dir b.dir) p.1 in
    let w = (Decides-int_eq a.way.0 b.way.0).0 p.0 in
    let i = (Decides-eqb a.index b.index).0 q.0 in
    let d = dir_same a.dir b.dir q.1 in
    λ j. record { way = record { 0 = w j }; index = i j; dir = d j }

pub step_itself : (a : Step) → step_equality.eq a a ≡ true
step_itself a = and_from _ _ ((Decides-int_eq a.way.0 a.way.0).1 refl)
    (and_from _ _ ((Decides-eqb a.index a.index).1 refl) (dir_itself a.dir))
