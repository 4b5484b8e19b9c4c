-- What it costs to pass places one behind another.
use Rattle.std.specs.Prelude.{ℕ, ◌+◌, List, [], ◌∷◌}
use Rattle.road_model.specs.declared.lists.Place.{Place}
use Rattle.least_cost.specs.Costs.{cost_between}

-- from the place to the first of these, where there is one
abbrev pub first_cost : Place → List Place → ℕ
first_cost x [] = 0
first_cost x (y ∷ ys) = cost_between x.location y.location

-- the sum of what it costs from each place to the next
abbrev pub places_cost : List Place → ℕ
places_cost [] = 0
places_cost (x ∷ xs) = first_cost x xs + places_cost xs
