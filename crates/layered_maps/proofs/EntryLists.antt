-- Entries side by side, ascending by key: what a search tells of them, what is found, and where one is put.
use Rattle.std.proofs.Common.{◌≡◌, ℕ, zero, suc, ◌<◌, ◌+◌, List, [], ◌∷◌, ◌++◌, length, map, take, drop}
use Rattle.std.proofs.Common.{set, get_or, Some, None, inl, inr, refl, sym, ap, ◌∙◌, subst, arith, Ordering}
use Rattle.std.specs.declared.cmp.Ordering.TheVariants.{Less, Equal, Greater}
use Rattle.std.specs.Ordering.{is_lt, is_eq, ordering_index}
use Rattle.std.specs.Cmp.{IsTotalOrder}
use Rattle.std.specs.FinMap.{find, put}
use Rattle.std.specs.List.{AllWithin, insert}
use Rattle.std.specs.List.Sorted.{IsSortedBy, IsNonDecreasingBy, IsPartitionPoint}
use Rattle.std.proofs.Math.Seq.{split_at}
use Rattle.std.proofs.lemmas.Bool.{and_parts}
use Rattle.std.proofs.lemmas.List.{set_split, take-append-drop}
use Rattle.std.proofs.lemmas.List.Sorted.{searchable_from_sorted}
use Rattle.ordered_lists.proofs.ListMembers.{In}
use Rattle.ordered_lists.proofs.Comparisons.{less, turned}
use Rattle.layered_maps.specs.Layers.{Rise}
use Rattle.layered_maps.proofs.SplitPairs.{find_here, find_behind, find_none, put_here, put_behind}

module _ {A B : Type 0} (f : A → B) where
  map_joined : (xs ys : List A) → map f (xs ++ ys) ≡ map f xs ++ map f ys
  map_joined [] ys = refl
  map_joined (x ∷ xs) ys = ap (λ l. f x ∷ l) (map_joined xs ys)

joined_again : {A : Type 0} (a b c : List A) → (a ++ b) ++ c ≡ a ++ (b ++ c)
joined_again [] b c = refl
joined_again (x ∷ a) b c = ap (λ l. x ∷ l) (joined_again a b c)

module _ {E K V : Type 0} (f : E → K × V) where
  -- one more entry is added
  pub pairs_more : (start front all old new : List E) (x y : E) → all ≡ front ++ x ∷ []
      → map f old ≡ map f start ++ map f front → f y ≡ f x → new ≡ old ++ y ∷ []
      → map f new ≡ map f start ++ map f all
  pairs_more start front all old new x y split before here after =
      ap (map f) after ∙ map_joined f old (y ∷ [])
      ∙ ap (λ l. l ++ f y ∷ []) before ∙ ap (λ z. (map f start ++ map f front) ++ z ∷ []) here
      ∙ joined_again (map f start) (map f front) (f x ∷ [])
      ∙ ap (λ l. map f start ++ l) (sym (ap (map f) split ∙ map_joined f front (x ∷ [])))

  -- the pairs, split at an entry
  pairs_at : (es : List E) (i : ℕ) (d : E) → i < length es
      → map f es ≡ map f (take i es) ++ f (get_or es i d) ∷ map f (drop (suc i) es)
  pairs_at es i d within =
      ap (map f) (split_at es i d within) ∙ map_joined f (take i es) (get_or es i d ∷ drop (suc i) es)

  -- the pairs, split at a place
  pairs_parted : (es : List E) (i : ℕ) → map f es ≡ map f (take i es) ++ map f (drop i es)
  pairs_parted es i =
      ap (map f) (sym (take-append-drop i es)) ∙ map_joined f (take i es) (drop i es)

  module _ (R : K → K → Ordering) (total : IsTotalOrder R) where
    -- ---- where a search meets the key

    pub found_entry : (es : List E) → Rise R (map f es) → (k : K) (i : ℕ) (d : E) → i < length es
        → R (f (get_or es i d)).0 k ≡ Equal → find R k (map f es) ≡ Some (f (get_or es i d)).1
    found_entry es up k i d within e =
        let split = pairs_at es i d within in
        ap (find R k) split
        ∙ find_here R total k (map f (take i es)) (f (get_or es i d)) (map f (drop (suc i) es))
        (subst (Rise R) split up) (turned R total (f (get_or es i d)).0 k Equal e)

    pub put_found : (es : List E) → Rise R (map f es) → (k : K) (v : V) (i : ℕ) (d x : E)
        → i < length es → R (f (get_or es i d)).0 k ≡ Equal → f x ≡ ((f (get_or es i d)).0, v)
        → map f (set es i x) ≡ put R k v (map f es)
    put_found es up k v i d x within e is =
        let split = pairs_at es i d within in
        ap (map f) (set_split es i x within) ∙ map_joined f (take i es) (x ∷ drop (suc i) es)
        ∙ ap (λ p. map f (take i es) ++ p ∷ map f (drop (suc i) es)) is
        ∙ sym (ap (put R k v) split
        ∙ put_here R total k v (map f (take i es)) (f (get_or es i d)) (map f (drop (suc i) es))
        (subst (Rise R) split up) (turned R total (f (get_or es i d)).0 k Equal e))

    -- ---- where it meets none

    neighbours : (es : List E) → Rise R (map f es) → (j : ℕ) (d : E) → suc j < length es
        → R (f (get_or es j d)).0 (f (get_or es (suc j) d)).0 ≡ Less
    neighbours [] up j d l = absurd (omega arith)
    neighbours (x ∷ []) up j d l = absurd (omega arith)
    neighbours (x ∷ y ∷ es) up zero d l = less _ (and_parts _ _ (and_parts _ _ up).0).0
    neighbours (x ∷ y ∷ es) up (suc j) d l = neighbours (y ∷ es) (and_parts _ _ up).1 j d (omega arith)

    sorted : (es : List E) → Rise R (map f es) → IsSortedBy (λ a b. is_lt (R (f a).0 (f b).0)) es
    sorted es up j d z l = let e : j + 1 ≡ suc j = omega arith in rw e
        (ap is_lt (turned R total (f (get_or es j d)).0 (f (get_or es (suc j) d)).0 Less
        (neighbours es up j d (omega arith))))

    pub searchable : (es : List E) → Rise R (map f es) → (k : K)
        → IsNonDecreasingBy (λ e. ordering_index (R (f e).0 k)) es
    searchable es up k = searchable_from_sorted total (λ (e : E). (f e).0) es k (sorted es up)

    low_member : (k : K) (es : List E) (i : ℕ) → AllWithin (λ e. R (f e).0 k ≡ Less) es 0 i → (y : K × V)
        → In y (map f (take i es)) → R k y.0 ≡ Greater
    low_member k es zero low y m = absurd m
    low_member k [] (suc i) low y m = absurd m
    low_member k (x ∷ es) (suc i) low y (inl e) =
        turned R total y.0 k Less (subst (λ (w : K × V). R w.0 k ≡ Less) (sym e) (low 0 x (omega arith) (omega arith)))
    low_member k (x ∷ es) (suc i) low y (inr m) =
        low_member k es i (λ j d a b. low (suc j) d (omega arith) (omega arith)) y m

    high_member : (k : K) (es : List E) (i : ℕ) → AllWithin (λ e. R (f e).0 k ≡ Greater) es i (length es)
        → (y : K × V) → In y (map f (drop i es)) → R k y.0 ≡ Less
    high_member k [] zero high y m = absurd m
    high_member k [] (suc i) high y m = absurd m
    high_member k (x ∷ es) zero high y (inl e) =
        turned R total y.0 k Greater
        (subst (λ (w : K × V). R w.0 k ≡ Greater) (sym e) (high 0 x (omega arith) (omega arith)))
    high_member k (x ∷ es) zero high y (inr m) =
        high_member k es zero (λ j d a b. high (suc j) d (omega arith) (omega arith)) y m
    high_member k (x ∷ es) (suc i) high y m =
        high_member k es i (λ j d a b. high (suc j) d (omega arith) (omega arith)) y m

    pub none_there : (es : List E) (k : K) (i : ℕ)
        → IsPartitionPoint (λ e. R (f e).0 k ≡ Less) (λ e. R (f e).0 k ≡ Greater) es i → find R k (map f es) ≡ None
    none_there es k i point =
        ap (find R k) (pairs_parted es i)
        ∙ find_behind R k (map f (take i es)) (map f (drop i es))
        (λ y m. ap is_eq (low_member k es i point.0 y m))
        ∙ find_none R k (map f (drop i es)) (λ y m. ap is_eq (high_member k es i point.1 y m))

    put_front : (k : K) (v : V) (l : List (K × V)) → ((y : K × V) → In y l → R k y.0 ≡ Less)
        → put R k v l ≡ (k, v) ∷ l
    put_front k v [] h = refl
    put_front k v (x ∷ l) h = rw (h x (inl refl)) refl

    pub put_new : (es : List E) (k : K) (v : V) (i : ℕ) (x : E)
        → IsPartitionPoint (λ e. R (f e).0 k ≡ Less) (λ e. R (f e).0 k ≡ Greater) es i → f x ≡ (k, v)
        → map f (insert es i x) ≡ put R k v (map f es)
    put_new es k v i x point is =
        map_joined f (take i es) (x ∷ drop i es)
        ∙ ap (λ p. map f (take i es) ++ p ∷ map f (drop i es)) is
        ∙ sym (ap (put R k v) (pairs_parted es i)
        ∙ put_behind R k v (map f (take i es)) (map f (drop i es)) (low_member k es i point.0)
        ∙ ap (λ l. map f (take i es) ++ l)
        (put_front k v (map f (drop i es)) (high_member k es i point.1)))
