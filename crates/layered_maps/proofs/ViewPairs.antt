-- What is found in a map that is lent.
use Rattle.std.proofs.Common.{◌≡◌, List, map, not, Option, Some, None, IfSome, IsTrue, sym, ap, ◌∙◌, Ordering}
use Rattle.std.specs.Cmp.{IsTotalOrder}
use Rattle.std.specs.FinMap.{IsAntisymmetric, find}
use Rattle.std.specs.Ordering.{is_lt}
use Rattle.ordered_lists.specs.Orders.{rises}
use Rattle.ordered_lists.proofs.FilteredLists.{from_filter}
use Rattle.layered_maps.specs.Layers.{Rise}
use Rattle.layered_maps.proofs.RunsFrom.{over_from}
use Rattle.layered_maps.specs.Maps.{AreKeyed, from_key, keyed, over}
use Rattle.layered_maps.proofs.FoundPairs.{key_found, found_member, pairs_rise, told_by_values}
use Rattle.layered_maps.proofs.OverPairs.{settled, find_over, map_keyed, over_rises}

module _ {K V : Type 0} (key : V → K) (R : K → K → Ordering) (total : IsTotalOrder R) (k : K)
    (layers : List (K × Option V)) where
  -- where it has changed
  pub got_changed : (pairs : List (K × V)) (x : Option V) → find R k layers ≡ Some x
      → x ≡ find R k (over R layers pairs)
  got_changed pairs x e = sym (find_over R total k layers pairs ∙ ap (λ o. settled o (find R k pairs)) e)

  pub key_changed : (x : Option V) → AreKeyed key R layers → find R k layers ≡ Some x → IfSome x (λ v. key v ≡ k)
  key_changed None are e = tt
  key_changed (Some v) are e = are k v e

  -- where it hasn't
  pub got_standing : (pairs : List (K × V)) (x : Option V) → find R k layers ≡ None → x ≡ find R k pairs
      → x ≡ find R k (over R layers pairs)
  got_standing pairs x e is = is ∙ sym (find_over R total k layers pairs ∙ ap (λ o. settled o (find R k pairs)) e)

  pub key_standing : IsAntisymmetric R → (vs : List V) (x : Option V) → x ≡ find R k (map (keyed key) vs)
      → IfSome x (λ v. key v ≡ k)
  key_standing exact vs None e = tt
  key_standing exact vs (Some v) e = key_found key R total exact k vs v (sym e)

module _ {K V : Type 0} (key : V → K) (R : K → K → Ordering) (total : IsTotalOrder R) (exact : IsAntisymmetric R)
    (layers : List (K × Option V)) (vs : List V) where
  -- values that are gone over, with their keys, are the map
  pub walked : AreKeyed key R layers → IsTrue (rises R (map key vs)) → (changes : List (K × Option V))
      (values : List V) → changes ≡ layers → values ≡ map (λ (p : K × V). p.1) (over R changes (map (keyed key) vs))
      → map (keyed key) values ≡ over R layers (map (keyed key) vs)
  walked are up changes values same is =
      ap (map (keyed key)) (is ∙ ap (λ l. map (λ (p : K × V). p.1) (over R l (map (keyed key) vs))) same)
      ∙ told_by_values key R total (over R layers (map (keyed key) vs))
      (λ p i. map_keyed key R total exact layers vs are p.0 p.1
      (found_member R total (over R layers (map (keyed key) vs))
      (over_rises R total layers (map (keyed key) vs) (pairs_rise key R total vs up)) p i))

  -- from a key on
  pub walked_from : AreKeyed key R layers → IsTrue (rises R (map key vs)) → (k : K)
      (changes : List (K × Option V)) (from values : List V) → changes ≡ from_key R k layers
      → map (keyed key) from ≡ from_key R k (map (keyed key) vs)
      → values ≡ map (λ (p : K × V). p.1) (over R changes (map (keyed key) from))
      → map (keyed key) values ≡ from_key R k (over R layers (map (keyed key) vs))
  walked_from are up k changes from values same told is =
      let pairs : List (K × V) = map (keyed key) vs in
      let rise : Rise R pairs = pairs_rise key R total vs up in
      ap (map (keyed key)) (is ∙ (λ i. map (λ (p : K × V). p.1) (over R (same i) (told i)))
      ∙ ap (map (λ (p : K × V). p.1)) (over_from R total k exact layers pairs rise))
      ∙ told_by_values key R total (from_key R k (over R layers pairs))
      (λ p i. map_keyed key R total exact layers vs are p.0 p.1
      (found_member R total (over R layers pairs) (over_rises R total layers pairs rise) p
      (from_filter (λ (q : K × V). not (is_lt (R q.0 k))) (over R layers pairs) p i).0))
