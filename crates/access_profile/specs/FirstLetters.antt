-- The letters with which access keys begin.
use Rattle.std.specs.Prelude.{ℕ, List, [], ◌∷◌, Bool, false, ◌||◌}
use Rattle.std.specs.Bool.{◌==◌}
use Rattle.access_profile.specs.Letters.{letter_a, letter_m, letter_v}

-- the key begins with a, m or v, as `access`, `motorcar`, `motor_vehicle` and `vehicle` do
abbrev pub may_be_access_key : List ℕ → Bool
may_be_access_key [] = false
may_be_access_key (b ∷ bs) = (b == letter_a || b == letter_m) || b == letter_v
