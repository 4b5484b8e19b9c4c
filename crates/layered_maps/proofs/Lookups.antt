-- What a look-up finds among pairs in order.
use Rattle.std.proofs.Common.{◌≡◌, ℕ, zero, suc, ◌+◌, ◌-◌, ◌<◌, ◌≤◌, Bool, true, false, IsTrue, List, [], ◌∷◌, length}
use Rattle.std.proofs.Common.{map, take, drop, inl, inr, refl, sym, ap, ◌∙◌, subst, arith, slice_index_or, Ordering}
use Rattle.std.proofs.Common.{Contains}
use Rattle.std.specs.declared.cmp.Ordering.TheVariants.{Less, Equal, Greater}
use Rattle.std.specs.Ordering.{is_lt, is_le, is_gt, ordering_then}
use Rattle.std.specs.Cmp.{IsTotalOrder, Equal-is}
use Rattle.std.specs.FinMap.{IsAntisymmetric}
use Rattle.std.specs.List.{zip, AllWithin}
use Rattle.std.specs.List.Sorted.{IsPartitionedBy, IsPartitionPoint}
use Rattle.std.proofs.lemmas.Bool.{and_parts, and_from, cases_lt}
use Rattle.std.proofs.lemmas.Cmp.{tied_itself, on_total, then_total, upto}
use Rattle.std.proofs.lemmas.List.{length-take, length-drop, get_or-take, get_or-drop}
use Rattle.std.proofs.lemmas.Slice.Zip.{length-zip, get_or-zip}
use Rattle.ordered_lists.specs.Orders.{rises, rises_from, Lists}
use Rattle.ordered_lists.proofs.AscendingLists.{rest_rises}
use Rattle.ordered_lists.proofs.Comparisons.{less, below_upto, not_above, from_not_above, between}
use Rattle.layered_maps.specs.Lists.{pair_cmp}

-- ---- ascending lists by places

module _ {N : Type 0} (C : N → N → Ordering) where
  pub rises_by : (xs : List N) → ((i : ℕ) (d : N) → suc i < length xs
      → C (slice_index_or xs i d) (slice_index_or xs (suc i) d) ≡ Less) → IsTrue (rises C xs)
  rises_by [] h = refl
  rises_by (x ∷ []) h = refl
  rises_by (x ∷ y ∷ ys) h = and_from _ _ (ap is_lt (h 0 x (omega arith)))
      (rises_by (y ∷ ys) (λ i d l. h (suc i) d (omega arith)))

  module _ (total : IsTotalOrder C) where
    above : (n : N) (xs : List N) → IsTrue (rises_from C n xs) → (i : ℕ) (d : N) → i < length xs
        → C n (slice_index_or xs i d) ≡ Less
    above n [] h i d l = absurd (omega arith)
    above n (y ∷ xs) h zero d l = less _ (and_parts _ _ h).0
    above n (y ∷ xs) h (suc i) d l = let p = and_parts _ _ h in total.trans n y (slice_index_or xs i d) (less _ p.0)
        (above y xs p.1 i d (omega arith))

    pub far : (xs : List N) → IsTrue (rises C xs) → (i j : ℕ) (d : N) → i < j → j < length xs
        → C (slice_index_or xs i d) (slice_index_or xs j d) ≡ Less
    far [] h i j d l m = absurd (omega arith)
    far (x ∷ xs) h i zero d l m = absurd (omega arith)
    far (x ∷ xs) h zero (suc j) d l m = above x xs h j d (omega arith)
    far (x ∷ xs) h (suc i) (suc j) d l m = far xs (rest_rises C x xs h) i j d (omega arith) (omega arith)

-- ---- pairs, of which the first parts and the second parts stand in two lists

then_less : (r s : Ordering) → ordering_then r s ≡ Less → is_gt r ≡ false
then_less Less s e = refl
then_less Equal s e = refl
then_less Greater s e = cc

then_tied : (r s : Ordering) → r ≡ Equal → ordering_then r s ≡ s
then_tied Less s e = cc
then_tied Equal s e = refl
then_tied Greater s e = cc

pub not_both : (b : Bool) → b ≡ true → b ≡ false → ⊥
not_both b h g = cc

module _ {A B : Type 0} (R : A → A → Ordering) (S : B → B → Ordering) (totalR : IsTotalOrder R)
    (totalS : IsTotalOrder S) (keys : List A) (values : List B) (even : length values ≡ length keys)
    (up : IsTrue (rises (pair_cmp R S) (zip keys values))) where
  total : IsTotalOrder (pair_cmp R S)
  total = then_total (on_total (λ (p : A × B). p.0) totalR) (on_total (λ (p : A × B). p.1) totalS)

  long : length (zip keys values) ≡ length keys
  long = length-zip keys values ∙ omega arith

  pair_at : (i : ℕ) (a : A) (b : B) → i < length keys
      → slice_index_or (zip keys values) i (a, b) ≡ (slice_index_or keys i a, slice_index_or values i b)
  pair_at i a b l = get_or-zip keys values i (a, b) l (omega arith)

  pairs_rise : (i j : ℕ) (a : A) (b : B) → i < j → j < length keys
      → pair_cmp R S (slice_index_or keys i a, slice_index_or values i b)
      (slice_index_or keys j a, slice_index_or values j b) ≡ Less
  pairs_rise i j a b l m =
      let k : j < length (zip keys values) = omega (arith, long) in
      subst (λ p. pair_cmp R S p (slice_index_or keys j a, slice_index_or values j b) ≡ Less)
      (pair_at i a b (omega arith))
      (subst (λ p. pair_cmp R S (slice_index_or (zip keys values) i (a, b)) p ≡ Less) (pair_at j a b m)
      (far (pair_cmp R S) total (zip keys values) up i j (a, b) l k))

  -- the keys don't fall; a pair of the second list stands for any where one is asked for
  keys_rise : (i j : ℕ) (a : A) (b : B) → i < j → j < length keys
      → is_gt (R (slice_index_or keys i a) (slice_index_or keys j a)) ≡ false
  keys_rise i j a b l m = then_less _ _ (pairs_rise i j a b l m)

  -- some value, where there is a key
  any_value : (i : ℕ) (b : (List B)) → b ≡ values → i < length keys → B
  any_value i [] e l = absurd (let f = ap length e in omega arith)
  any_value i (b ∷ bs) e l = b

  less_upto : (a b c : A) → is_gt (R a b) ≡ false → is_lt (R b c) ≡ true → is_lt (R a c) ≡ true
  less_upto a b c h g =
      elim (R a b) as (λ r. R a b ≡ r → is_gt r ≡ false → is_lt (R a c) ≡ true) [
        | Less ↦ λ e f. ap is_lt (totalR.trans a b c e (less _ g))
        | Equal ↦ λ e f. ap is_lt (totalR.congr a b c e) ∙ g
        | Greater ↦ λ e f. absurd (not_both true refl f)
      ] refl h

  pub below_parted : (k : A) → IsPartitionedBy (λ a. is_lt (R a k)) keys
  below_parted k i j a le m h = elim (cases_lt i j) [
    | inl l ↦ less_upto (slice_index_or keys i a) (slice_index_or keys j a) k
        (keys_rise i j a (any_value j values refl m) l m) h
    | inr ge ↦ let e : j ≡ i = omega arith in subst (λ n. is_lt (R (slice_index_or keys n a) k) ≡ true) e h
  ]

  pub upto_parted : (k : A) → IsPartitionedBy (λ a. is_le (R a k)) keys
  upto_parted k i j a le m h = elim (cases_lt i j) [
    | inl l ↦ from_not_above _ (upto totalR (slice_index_or keys i a) (slice_index_or keys j a) k
        (keys_rise i j a (any_value j values refl m) l m) (not_above _ h))
    | inr ge ↦ let e : j ≡ i = omega arith in subst (λ n. is_le (R (slice_index_or keys n a) k) ≡ true) e h
  ]

  -- where all keys below a place are upto k, and the one there isn't, that place parts them
  pub upto_point : (k : A) (low high : ℕ) → IsPartitionPoint (λ a. is_lt (R a k) ≡ true) (λ a. is_lt (R a k) ≡ false)
      keys low → AllWithin (λ a. is_le (R a k) ≡ true) keys low high
      → ((d : A) → high < length keys → is_le (R (slice_index_or keys high d) k) ≡ false)
      → IsPartitionPoint (λ a. is_le (R a k) ≡ true) (λ a. is_le (R a k) ≡ false) keys high
  upto_point k low high parts upto next = (
    λ i d from within.
        elim (cases_lt i low) [
          | inl below ↦ below_upto (R (slice_index_or keys i d) k) (parts.0 i d (omega arith) below)
          | inr ge ↦ upto i d (omega arith) within
        ],
    λ i d from within.
        elim (is_le (R (slice_index_or keys i d) k)) as (λ t. is_le (R (slice_index_or keys i d) k) ≡ t → t ≡ false) [
          | true ↦ λ e. absurd (not_both (is_le (R (slice_index_or keys high d) k))
              (upto_parted k high i d from within e) (next d (omega arith)))
          | false ↦ λ e. refl
        ] refl,
  )

  module _ (exact : IsAntisymmetric R) (k : A) (low high : ℕ)
      (below : IsPartitionPoint (λ a. is_lt (R a k) ≡ true) (λ a. is_lt (R a k) ≡ false) keys low)
      (within : IsPartitionPoint (λ a. is_le (R a k) ≡ true) (λ a. is_le (R a k) ≡ false) keys high)
      (low_fits : low ≤ length keys) (high_fits : high ≤ length keys) where
    tied_at : (j : ℕ) → low ≤ j → j < high → (a : A) → slice_index_or keys j a ≡ k
    tied_at j le l a = exact _ _
        ((Equal-is _).0 (between _ (below.1 j a le (omega arith)) (within.0 j a (omega arith) l)))

    long_found : length (take (high - low) (drop low values)) ≡ high - low
    long_found = length-take (high - low) (drop low values)
        ∙ ap (λ n. n) (let f = length-drop low values in omega arith)

    found_at : (i : ℕ) (b : B) → i < high - low
        → slice_index_or (take (high - low) (drop low values)) i b ≡ slice_index_or values (low + i) b
    found_at i b l = get_or-take (high - low) (drop low values) i b l ∙ get_or-drop low values i b

    next_less : (i : ℕ) (b : B) → suc i < high - low
        → S (slice_index_or values (low + i) b) (slice_index_or values (low + suc i) b) ≡ Less
    next_less i b l =
        let less_pair = pairs_rise (low + i) (low + suc i) k b (omega arith) (omega arith) in
        let tied : R (slice_index_or keys (low + i) k) (slice_index_or keys (low + suc i) k)
        ≡ Equal = rw (
          tied_at (low + i) (omega arith) (omega arith) k,
          tied_at (low + suc i) (omega arith)
              (omega arith) k,
        ) (tied_itself totalR k) in
        sym (then_tied _ _ tied) ∙ less_pair

    same_list : (xs : List B) → map (λ v. v) xs ≡ xs
    same_list [] = refl
    same_list (x ∷ xs) = ap (λ l. x ∷ l) (same_list xs)

    pub found_lists : Lists (λ v. v) S (λ v. Contains (zip keys values) (k, v)) (take (high - low) (drop low values))
    found_lists = record {
      ascending = subst (λ l. IsTrue (rises S l)) (sym (same_list _)) (rises_by S _ (λ i b l.
          let m : suc i < high - low = omega (arith, long_found) in
          rw (found_at i b (omega arith), found_at (suc i) b m) (next_less i b m)));
      sound = λ v c.
          let i = c.0 in
          let l : i < high - low = let f = c.1 in omega (arith, long_found) in
          let here : low + i < length keys = omega arith in (
            low + i,
            omega (arith, long),
            pair_at (low + i) k v here
                ∙ ap (λ a. (a, slice_index_or values (low + i) v)) (tied_at (low + i) (omega arith) (omega arith) k)
                ∙ ap (λ b. (k, b)) (sym (found_at i v l) ∙ c.2),
          );
      complete = λ v c.
          let j = c.0 in
          let l : j < length keys = let f = c.1 in omega (arith, long) in
          let both : (slice_index_or keys j k, slice_index_or values j v) ≡ (k, v) = sym (pair_at j k v l) ∙ c.2 in
          let key : slice_index_or keys j k ≡ k = ap (λ (p : A × B). p.0) both in
          let value : slice_index_or values j v ≡ v = ap (λ (p : A × B). p.1) both in
          let tied : R (slice_index_or keys j k) k ≡ Equal = rw key (tied_itself totalR k) in
          let after : low ≤ j = elim (cases_lt j low)
          [ inl m ↦ absurd (not_both _ (below.0 j k (omega arith) m) (ap is_lt tied)) | inr le ↦ le ] in
          let until : j < high = elim (cases_lt j high)
          [ inl m ↦ m | inr le ↦ absurd (not_both _ (ap is_le tied) (within.1 j k le l)) ] in
          let place : low + (j - low) ≡ j = omega arith in (
            j - low,
            omega (arith, long_found),
            found_at (j - low) v (omega arith)
                ∙ ap (λ n. slice_index_or values n v) place ∙ value,
          );
    }
