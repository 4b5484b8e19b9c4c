-- The place that parts a list is one before which the test holds, where it doesn't hold at the place.
use Rattle.std.proofs.Common.{◌≡◌, ℕ, ◌<◌, Bool, true, false, List, length, refl, sym, ◌∙◌, arith, slice_index_or}
use Rattle.std.proofs.Common.{◌+◌, IsTrue, IsFalse}
use Rattle.std.specs.List.{AllWithin}
use Rattle.std.specs.List.Sorted.{IsPartitionedBy, IsPartitionPoint}
use Rattle.layered_maps.proofs.Lookups.{not_both}

pub point_between : {X : Type 0} (p : X → Bool) (xs : List X) → IsPartitionedBy p xs → (i : ℕ)
    → AllWithin (λ x. p x ≡ true) xs 0 i → ((d : X) → i < length xs → p (slice_index_or xs i d) ≡ false)
    → IsPartitionPoint (λ x. p x ≡ true) (λ x. p x ≡ false) xs i
point_between p xs parted i before behind = (
  before,
  λ k d from l.
      elim (p (slice_index_or xs k d)) as (λ t. p (slice_index_or xs k d) ≡ t → t ≡ false) [
        | true ↦ λ e. absurd (not_both _ (parted i k d from l e) (behind d (omega arith)))
        | false ↦ λ e. refl
      ] refl,
)

module _ {X : Type 0} (p : X → Bool) (xs : List X) (parted : IsPartitionedBy p xs) (m : ℕ) (within : m < length xs)
    (b : Bool) (told : (d : X) → b ≡ p (slice_index_or xs m d)) where
  -- where the test holds at a place it does so up to that
  pub holds_to : IsTrue b → AllWithin (λ x. p x ≡ true) xs 0 (m + 1)
  holds_to holds = λ k d from to. parted k m d (omega (arith, to)) within (sym (told d) ∙ holds)

  -- and where it doesn't, it doesn't from there on
  pub fails_from : IsFalse b → AllWithin (λ x. p x ≡ false) xs m (length xs)
  fails_from fails = λ k d from l.
      elim (p (slice_index_or xs k d)) as (λ t. p (slice_index_or xs k d) ≡ t → t ≡ false) [
        | true ↦ λ e. absurd (not_both _ (parted m k d from l e) (sym (told d) ∙ fails))
        | false ↦ λ e. refl
      ] refl
