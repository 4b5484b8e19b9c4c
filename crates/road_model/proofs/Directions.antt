-- Directions that are one.
use Rattle.std.proofs.Common.{◌≡◌, true, refl}
use Rattle.std.proofs.lemmas.Bool.{false≢true}
use Rattle.road_base.specs.declared.ids.Dir.{Dir}
use Rattle.road_base.specs.declared.ids.Dir.TheVariants.{Forward, Backward}
use Rattle.road_model.specs.Orders.{same_dir}

pub dir_is : (a b : Dir) → same_dir a b ≡ true → a ≡ b
dir_is Forward Forward same = refl
dir_is Forward Backward same = absurd (false≢true same)
dir_is Backward Forward same = absurd (false≢true same)
dir_is Backward Backward same = refl

pub dir_self : (a : Dir) → same_dir a a ≡ true
dir_self Forward = refl
dir_self Backward = refl
