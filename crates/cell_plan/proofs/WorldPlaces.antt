-- How far places lie from the root square's corner.
use Rattle.std.proofs.Common.{◌≡◌, ℕ, ◌<◌, ◌≤◌, ℤ, pos, negsuc, ◌+ℤ◌, IsTrue, arith}
use Rattle.std.proofs.lemmas.Int.{ints}
use Rattle.std.specs.Prelude.{unsigned_abs}
use Rattle.road_base.specs.declared.location.Location.{Location}
use Rattle.road_base.specs.Ranges.{is_in_range}
use Rattle.cell_plan.specs.Grids.{units_east, units_north}

pub record HasOffsets (x y : ℤ) (e n : ℕ) : Type 0 where
  pub lon : (x +ℤ pos 1800000000) ≡ pos e
  pub lat : (y +ℤ pos 1800000000) ≡ pos n
  pub east : e < 3600000001
  pub south : 900000000 ≤ n
  pub north : n < 2700000001

offsets_by : (lon lat : ℤ) → IsTrue (is_in_range lon lat)
    → HasOffsets lon lat (unsigned_abs (lon +ℤ pos 1800000000)) (unsigned_abs (lat +ℤ pos 1800000000))
offsets_by (pos x) (pos y) h = record {
  lon = grind (arith, ints);
  lat = grind (arith, ints);
  east = grind (arith, ints);
  south = grind (arith, ints);
  north = grind (arith, ints);
}
offsets_by (pos x) (negsuc y) h = record {
  lon = grind (arith, ints);
  lat = grind (arith, ints);
  east = grind (arith, ints);
  south = grind (arith, ints);
  north = grind (arith, ints);
}
offsets_by (negsuc x) (pos y) h = record {
  lon = grind (arith, ints);
  lat = grind (arith, ints);
  east = grind (arith, ints);
  south = grind (arith, ints);
  north = grind (arith, ints);
}
offsets_by (negsuc x) (negsuc y) h = record {
  lon = grind (arith, ints);
  lat = grind (arith, ints);
  east = grind (arith, ints);
  south = grind (arith, ints);
  north = grind (arith, ints);
}

pub offsets : (p : Location) → HasOffsets p.lon p.lat (units_east p) (units_north p)
offsets p = offsets_by p.lon p.lat p.in_range
