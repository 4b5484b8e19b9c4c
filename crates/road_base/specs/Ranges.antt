-- Where a place may lie.
use Rattle.std.specs.Prelude.{ℤ, pos, negsuc, Bool, not, int_lt, ◌&&◌}

abbrev pub is_within : ℤ → ℤ → ℤ → Bool
is_within low high x = not (int_lt x low) && not (int_lt high x)

-- the longitude within 180 degrees, the latitude within 90, in units of 1e-7 degree
abbrev pub is_in_range : ℤ → ℤ → Bool
is_in_range lon lat = is_within (negsuc 1799999999) (pos 1800000000) lon
    && is_within (negsuc 899999999) (pos 900000000) lat
