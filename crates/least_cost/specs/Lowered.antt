-- The numbers at the contexts that a search by cost leaves.
use Rattle.std.specs.Prelude.{ℕ, ◌-◌, min, List, [], ◌∷◌, Option, Some, None}
use Rattle.std.specs.declared.cmp.Ordering.{Ordering}
use Rattle.std.specs.declared.cmp.Ordering.TheVariants.{Less, Equal, Greater}
use Rattle.road_base.specs.declared.location.Location.{Location}
use Rattle.context_search.specs.Marks.{At, key_of, key_cmp}
use Rattle.least_cost.specs.declared.visiting.CostVisit.{CostVisit}
use Rattle.least_cost.specs.CostVisits.{ContextNames, names_at}
use Rattle.least_cost.specs.Latitudes.{latitudes_left}

-- the lesser of two, where none is greater than every number
abbrev pub lesser_of : Option ℕ → Option ℕ → Option ℕ
lesser_of None m = m
lesser_of (Some n) None = Some n
lesser_of (Some n) (Some m) = Some (min n m)

abbrev pub lesser_if : Ordering → ℕ → Option ℕ → Option ℕ
lesser_if Equal n more = lesser_of (Some n) more
lesser_if Less n more = more
lesser_if Greater n more = more

-- the least cost over which the context of these names was come to, none where it wasn't
abbrev pub least_to : List CostVisit → ContextNames → Option ℕ
least_to [] q = None
least_to (v ∷ visits) q = lesser_if (key_cmp (names_at v) q) v.cost (least_to visits q)

abbrev pub less_left : Option ℕ → ℕ → Option ℕ
less_left None left = None
less_left (Some c) left = Some (c - left)

-- The number at a context, where a search has found a drive of cost C, or none: the least cost over which the context
-- was come to, and no more than what C leaves for the way from there to the location, by latitudes.
abbrev pub number_left : List CostVisit → Option ℕ → Location → At → Option ℕ
number_left visits C to x = lesser_of (least_to visits (key_of x)) (less_left C (latitudes_left x.piece.places to))

-- the same of a context
abbrev pub least_at : List CostVisit → At → Option ℕ
least_at visits x = least_to visits (key_of x)
