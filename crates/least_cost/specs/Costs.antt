-- What steps and drives cost, in whole numbers.
use Rattle.std.specs.Prelude.{ℕ, zero, suc, ◌+◌, ◌-◌, ◌*◌, ◌/◌, min, List, [], ◌∷◌, Option, Some, None, Bool, cond}
use Rattle.std.specs.Prelude.{nat_le, ℤ, ◌+ℤ◌, ◌-ℤ◌, unsigned_abs}
use Rattle.road_base.specs.declared.ids.NodeId.{NodeId}
use Rattle.road_base.specs.declared.ids.Step.{Step}
use Rattle.road_base.specs.declared.location.Location.{Location}
use Rattle.road_base.specs.declared.objects.Node.{Node}
use Rattle.road_base.specs.Objects.{Objects, node_of}
use Rattle.road_model.specs.Lines.{tail_of, head_of}

-- the greatest number up to n that passes the test, 0 where none does
abbrev pub greatest : (ℕ → Bool) → ℕ → ℕ
greatest passes zero = 0
greatest passes (suc n) = cond (passes (suc n)) (suc n) (greatest passes n)

-- the greatest whole number whose square is at most n
unfoldable pub root : ℕ → ℕ
root n = greatest (λ r. nat_le (r * r) n) n

-- the difference of two longitudes in units of 1e-7 degree, the shorter way round the earth
abbrev pub lon_difference : ℤ → ℤ → ℕ
lon_difference a b = min (unsigned_abs (a -ℤ b)) (3600000000 - unsigned_abs (a -ℤ b))

-- A difference of longitudes where two latitudes have the sum m, in units as long as those of latitude, rounded down: by
-- the cosine of the mean latitude, for which Bhaskara's fraction stands, (Q - 4 m m) / (Q + m m) with Q the square of
-- 360 degrees (https://en.wikipedia.org/wiki/Bhaskara_I%27s_sine_approximation_formula).
abbrev pub narrowed : ℕ → ℕ → ℕ
narrowed dx m = dx * (12960000000000000000 - 4 * m * m) / (12960000000000000000 + m * m)

-- what the sides of a right angle span: the greatest whole number that isn't longer
abbrev pub straight : ℕ → ℕ → ℕ
straight x y = root (x * x + y * y)

-- the cost of a step from one location to the other: one more than the straight line, in units of 1e-7 degree of
-- latitude
unfoldable pub cost_between : Location → Location → ℕ
cost_between from to = 1 + straight
    (narrowed (lon_difference from.lon to.lon) (unsigned_abs (from.lat +ℤ to.lat)))
    (unsigned_abs (from.lat -ℤ to.lat))

abbrev pub location_in : Option Node → Option Location
location_in None = None
location_in (Some n) = n.location

-- where a node lies that is visible and has a location
abbrev pub location_of : Objects → Option NodeId → Option Location
location_of M None = None
location_of M (Some v) = location_in (node_of M v)

abbrev pub cost_by : Option Location → Option Location → Option ℕ
cost_by (Some from) (Some to) = Some (cost_between from to)
cost_by None to = None
cost_by (Some from) None = None

-- the cost of a step; none where it names no pair of a visible way or one of its nodes has no location
unfoldable pub step_cost_of : Objects → Step → Option ℕ
step_cost_of M s = cost_by (location_of M (tail_of M s)) (location_of M (head_of M s))

-- the sum of two numbers, none where one of them is none
abbrev pub plus : Option ℕ → Option ℕ → Option ℕ
plus (Some a) (Some b) = Some (a + b)
plus None b = None
plus (Some a) None = None

-- the cost of a drive, the sum over its steps; none where one of them has none
abbrev pub cost_of : Objects → List Step → Option ℕ
cost_of M [] = Some 0
cost_of M (s ∷ d) = plus (step_cost_of M s) (cost_of M d)
