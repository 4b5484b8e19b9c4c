-- How large longitudes and latitudes are.
use Rattle.std.proofs.Common.{ℕ, ◌≤◌, ◌*◌, ℤ, pos, negsuc, ◌≤ℤ◌, IsTrue, arith}
use Rattle.std.proofs.lemmas.Int.{ints}
use Rattle.std.proofs.lemmas.Nat.{mul-le}
use Rattle.road_base.specs.Ranges.{is_in_range}

pub record HasSizes (lon lat : ℤ) : Type 0 where
  pub west : negsuc 1799999999 ≤ℤ lon
  pub east : lon ≤ℤ pos 1800000000
  pub south : negsuc 899999999 ≤ℤ lat
  pub north : lat ≤ℤ pos 900000000

pub location_sizes : (lon lat : ℤ) → IsTrue (is_in_range lon lat) → HasSizes lon lat
location_sizes (pos x) (pos y) h = record
    { west = grind (arith, ints); east = grind (arith, ints); south = grind (arith, ints); north = grind (arith, ints) }
location_sizes (pos x) (negsuc y) h = record
    { west = grind (arith, ints); east = grind (arith, ints); south = grind (arith, ints); north = grind (arith, ints) }
location_sizes (negsuc x) (pos y) h = record
    { west = grind (arith, ints); east = grind (arith, ints); south = grind (arith, ints); north = grind (arith, ints) }
location_sizes (negsuc x) (negsuc y) h = record
    { west = grind (arith, ints); east = grind (arith, ints); south = grind (arith, ints); north = grind (arith, ints) }

pub square_size : (n : ℕ) → n ≤ 1800000000 → n * n ≤ 3240000000000000000
square_size n h = mul-le n n 1800000000 1800000000 h h
