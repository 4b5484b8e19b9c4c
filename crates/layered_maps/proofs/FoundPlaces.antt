-- What stands at a position of a list in order, found by its key.
use Rattle.std.proofs.Common.{◌≡◌, ◌<◌, ℕ, zero, suc, IsTrue, IsFalse, List, [], ◌∷◌, map, length, Option}
use Rattle.std.proofs.Common.{Some, None, refl, sym, ap, ◌∙◌, subst, arith, Ordering, slice_get, slice_index_or}
use Rattle.std.specs.declared.cmp.Ordering.TheVariants.{Less, Equal, Greater}
use Rattle.std.specs.Ordering.{is_eq, is_lt}
use Rattle.std.specs.List.{HoldsAt}
use Rattle.std.specs.Cmp.{IsTotalOrder}
use Rattle.std.specs.FinMap.{find}
use Rattle.std.proofs.lemmas.Cmp.{tied_itself}
use Rattle.std.proofs.lemmas.Option.{get_or_from_slice_get, slice_get_within}
use Rattle.ordered_lists.specs.Orders.{rises}
use Rattle.layered_maps.specs.Maps.{keyed}
use Rattle.layered_maps.proofs.EntryLists.{found_entry}
use Rattle.layered_maps.proofs.FoundPairs.{pairs_rise}

pub equal_told : (o : Ordering) → IsTrue (is_eq o) → o ≡ Equal
equal_told Less h = cc
equal_told Equal h = refl
equal_told Greater h = cc

pub greater_told : (o : Ordering) → IsFalse (is_lt o) → IsFalse (is_eq o) → o ≡ Greater
greater_told Less h i = cc
greater_told Equal h i = cc
greater_told Greater h i = refl

none_past : {A : Type 0} (xs : List A) (i : ℕ) → i < length xs → None ≡ slice_get xs i → ⊥
none_past [] i h e = absurd (omega (arith, h))
none_past (x ∷ xs) zero h e = cc
none_past (x ∷ xs) (suc i) h e = none_past xs i (omega (arith, h)) e

module _ {K V : Type 0} (key : V → K) (R : K → K → Ordering) (total : IsTotalOrder R) (list : List V)
    (up : IsTrue (rises R (map key list))) (k : K) (i : ℕ) where
  -- a value of the key
  pub found_value : (v : V) → Some v ≡ slice_get list i → key v ≡ k → Some v ≡ find R k (map (keyed key) list)
  found_value v e own =
      let is : slice_index_or list i v ≡ v = get_or_from_slice_get list i v v (sym e) in
      let tie : R (key v) k ≡ Equal = subst (λ j. R j k ≡ Equal) (sym own) (tied_itself total k) in
      ap Some (sym is)
      ∙ sym (found_entry (keyed key) R total list (pairs_rise key R total list up) k i v
      (slice_get_within list i v (sym e)) (subst (λ x. R (key x) k ≡ Equal) (sym is) tie))

  -- the same of a position that is known to have one
  pub found_there : i < length list → HoldsAt (λ v. key v ≡ k) list i → (o : Option V) → o ≡ slice_get list i
      → o ≡ find R k (map (keyed key) list)
  found_there within holds None e = absurd (none_past list i within e)
  found_there within holds (Some v) e =
      found_value v e (subst (λ x. key x ≡ k) (get_or_from_slice_get list i v v (sym e)) (holds v))
