-- Locations with equal numbers are equal.
use Rattle.std.specs.Prelude.{◌≡◌, ℤ, IsTrue}
use Rattle.std.proofs.Common.{ap, subst}
use mathlib.Core.Bool.{Bool-set}
use Rattle.road_base.specs.declared.location.Location.{Location}
use Rattle.road_base.specs.Ranges.{is_in_range}

abbrev place : (lon lat : ℤ) → IsTrue (is_in_range lon lat) → Location
place lon lat h = record { lon = lon; lat = lat; in_range = h }

one_place : (lon lat : ℤ) (h k : IsTrue (is_in_range lon lat)) → place lon lat h ≡ place lon lat k
one_place lon lat h k = ap (λ r. place lon lat r) (Bool-set _ _ h k)

lats_tie : (lon a b : ℤ) → a ≡ b → (h : IsTrue (is_in_range lon a)) (k : IsTrue (is_in_range lon b))
    → place lon a h ≡ place lon b k
lats_tie lon a b same = subst (λ (v : ℤ). (h : IsTrue (is_in_range lon a)) (k : IsTrue (is_in_range lon v))
    → place lon a h ≡ place lon v k) same (one_place lon a)

places_tie : (lon a : ℤ) (n b : ℤ) → lon ≡ n → a ≡ b → (h : IsTrue (is_in_range lon a)) (k : IsTrue (is_in_range n b))
    → place lon a h ≡ place n b k
places_tie lon a n b same_lon same_lat = subst
    (λ (v : ℤ). (h : IsTrue (is_in_range lon a)) (k : IsTrue (is_in_range v b)) → place lon a h ≡ place v b k) same_lon
    (lats_tie lon a b same_lat)

pub equal_places : (l m : Location) → l.lon ≡ m.lon → l.lat ≡ m.lat → l ≡ m
equal_places l m lon lat = places_tie l.lon l.lat m.lon m.lat lon lat l.in_range m.in_range
