-- Values with their keys, one of which comes in the place of its key's.
use Rattle.std.proofs.Common.{◌≡◌, ℕ, ◌<◌, List, length, map, is_some, cond, None, sym, ap, ◌∙◌, subst}
use Rattle.std.proofs.Common.{Ordering, IsTrue, slice_set, slice_index_or}
use Rattle.std.specs.declared.cmp.Ordering.TheVariants.{Equal}
use Rattle.std.specs.Cmp.{IsTotalOrder}
use Rattle.std.specs.FinMap.{find, put, is_sorted}
use Rattle.std.proofs.lemmas.Cmp.{tied_itself}
use Rattle.ordered_lists.specs.Orders.{rises}
use Rattle.layered_maps.specs.Maps.{keyed, replaced}
use Rattle.layered_maps.proofs.EntryLists.{found_entry, put_found}
use Rattle.layered_maps.proofs.FoundPairs.{pairs_rise, keys_rise}
use Rattle.layered_maps.proofs.SplitPairs.{put_rises}

module _ {K V : Type 0} (key : V → K) (R : K → K → Ordering) (total : IsTotalOrder R) (es list new : List V)
    (same : list ≡ es) (up : IsTrue (rises R (map key es))) (v : V) (k : K) (own : k ≡ key v) where
  module _ (i : ℕ) (within : i < length list) (is : key (slice_index_or list i v) ≡ k) (set : new ≡ slice_set es i v)
    where
      inside : i < length es
      inside = subst (λ l. i < length l) same within

      at : key (slice_index_or es i v) ≡ key v
      at = subst (λ l. key (slice_index_or l i v) ≡ key v) same (is ∙ own)

      tie : R (key (slice_index_or es i v)) (key v) ≡ Equal
      tie = subst (λ j. R j (key v) ≡ Equal) (sym at) (tied_itself total (key v))

      put_in : map (keyed key) new ≡ put R (key v) v (map (keyed key) es)
      put_in = ap (map (keyed key)) set
          ∙ put_found (keyed key) R total es (pairs_rise key R total es up) (key v) v i v v inside tie
          (ap (λ j. (j, v)) (sym at))

      -- the keys rise as before
      pub set_rises : IsTrue (rises R (map key new))
      set_rises = keys_rise key R total new (subst (λ l. IsTrue (is_sorted R l)) (sym put_in)
          (put_rises R total (key v) v (map (keyed key) es) (pairs_rise key R total es up)))

      -- it has come in the place of its key's
      pub set_replaced : map (keyed key) new ≡ replaced key R v (map (keyed key) es)
      set_replaced = put_in
          ∙ ap (λ o. cond (is_some o) (put R (key v) v (map (keyed key) es)) (map (keyed key) es))
          (sym (found_entry (keyed key) R total es (pairs_rise key R total es up) (key v) i v inside tie))

  -- where no value has the key, nothing changes
  pub none_replaced : find R k (map (keyed key) list) ≡ None
      → map (keyed key) es ≡ replaced key R v (map (keyed key) es)
  none_replaced none =
      ap (λ o. cond (is_some o) (put R (key v) v (map (keyed key) es)) (map (keyed key) es))
      (sym (subst (λ l. find R (key v) (map (keyed key) l) ≡ None) same
      (subst (λ j. find R j (map (keyed key) list) ≡ None) own none)))
