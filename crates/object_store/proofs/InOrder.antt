-- Lists in key order: what is found in them, and the entries of their maps.
use Rattle.std.proofs.Common.{◌≡◌, ℕ, zero, suc, ◌<◌, true, false, cond, IsTrue, List, [], ◌∷◌, length, map}
use Rattle.std.proofs.Common.{filter, Some, None, inl, inr, ◌⊎◌, refl, sym, ap, ◌∙◌, subst, arith, slice_index_or}
use Rattle.std.specs.declared.cmp.Ordering.TheVariants.{Less, Equal, Greater}
use Rattle.std.specs.Ordering.{is_eq}
use Rattle.std.specs.Option.{option_to_list}
use Rattle.std.specs.Cmp.{IsTotalOrder, Equal-is}
use Rattle.std.specs.FinMap.{IsAntisymmetric, empty, entries, find, put, len-empty, len-entries, entries-insert}
use Rattle.std.proofs.lemmas.Bool.{and_parts}
use Rattle.std.proofs.lemmas.List.{nil_from_length}
use Rattle.std.proofs.lemmas.Cmp.{tied_itself}
use Rattle.road_base.specs.declared.ids.Key.{Key}
use Rattle.road_base.specs.declared.event.Event.{Event}
use Rattle.road_base.specs.Objects.{Entry, key_cmp}
use Rattle.road_base.specs.Applying.{entry_of, is_of}
use Rattle.ordered_lists.specs.Orders.{rises_from}
use Rattle.object_store.specs.Listed.{key_of, pair_of, objects_of, IsInOrder}
use Rattle.ordered_lists.proofs.ListMembers.{In, in_get}
use Rattle.ordered_lists.proofs.Comparisons.{less, turned}
use Rattle.ordered_lists.proofs.AscendingLists.{rest_rises, above as stands_above}

-- an event with a key among those of which the key is another's
pub none_found : (k : Key) (xs : List Event) → ((x : Event) → In x xs → is_of k x ≡ false)
    → find key_cmp k (map pair_of xs) ≡ None
none_found k [] h = refl
none_found k (x ∷ xs) h = rw (h x (inl refl)) (none_found k xs (λ y i. h y (inr i)))

pub none_kept : (k : Key) (xs : List Event) → ((x : Event) → In x xs → is_of k x ≡ false) → filter (is_of k) xs ≡ []
none_kept k [] h = refl
none_kept k (x ∷ xs) h = rw (h x (inl refl)) (none_kept k xs (λ y i. h y (inr i)))

-- one of the events is the key's, or none is
pub one_or_none : (k : Key) (xs : List Event)
    → ((x : Event) × In x xs × (is_of k x ≡ true)) ⊎ ((x : Event) → In x xs → is_of k x ≡ false)
one_or_none k [] = inr (λ x i. absurd i)
one_or_none k (x ∷ xs) =
    elim (is_of k x) as (λ t. is_of k x ≡ t → ((y : Event) × In y (x ∷ xs) × (is_of k y ≡ true))
    ⊎ ((y : Event) → In y (x ∷ xs) → is_of k y ≡ false)) [
      | true ↦ λ t. inl (x, inl refl, t)
      | false ↦ λ t. elim (one_or_none k xs) [
        | inl f ↦ inl (f.0, inr f.1, f.2)
        | inr none ↦ inr (λ y. elim [ inl e ↦ subst (λ z. is_of k z ≡ false) (sym e) t | inr i ↦ none y i ])
      ]
    ] refl

module _ (total : IsTotalOrder key_cmp) where
  pub above : (n : Key) (xs : List Event) → IsTrue (rises_from key_cmp n (map key_of xs)) → (x : Event) → In x xs
      → key_cmp n x.key ≡ Less
  above n xs h x i = less _ (stands_above key_of key_cmp total n xs h x i)

  -- nothing above a key is that key's
  pub other_above : (n : Key) (xs : List Event) → IsTrue (rises_from key_cmp n (map key_of xs)) → (x : Event) → In x xs
      → is_of n x ≡ false
  other_above n xs h x i = ap is_eq (above n xs h x i)

  put_front : (x : Event) (xs : List Event) → IsTrue (rises_from key_cmp x.key (map key_of xs))
      → put key_cmp x.key (entry_of x) (map pair_of xs) ≡ pair_of x ∷ map pair_of xs
  put_front x [] h = refl
  put_front x (y ∷ ys) h = let e : key_cmp x.key y.key ≡ Less = less _ (and_parts _ _ h).0 in rw e refl

  -- the list is the entries of its map
  pub entries_of : (xs : List Event) → IsInOrder xs → entries (objects_of xs) ≡ map pair_of xs
  entries_of [] h = nil_from_length _ (sym (len-entries empty) ∙ len-empty key_cmp Entry)
  entries_of (x ∷ xs) h =
      entries-insert total (objects_of xs) x.key (entry_of x)
      ∙ ap (put key_cmp x.key (entry_of x)) (entries_of xs (rest_rises key_cmp x.key (map key_of xs) h))
      ∙ put_front x xs h

  module _ (exact : IsAntisymmetric key_cmp) where
    -- a key that the search meets at a place has the entry there
    pub found_at : (k : Key) (xs : List Event) → IsInOrder xs → (i : ℕ) (d : Event) → i < length xs
        → (slice_index_or xs i d).key ≡ k → find key_cmp k (map pair_of xs) ≡ Some (entry_of (slice_index_or xs i d))
    found_at k [] h i d l e = absurd (omega arith)
    found_at k (x ∷ xs) h zero d l e = let t : key_cmp k x.key
        ≡ Equal = subst (λ n. key_cmp k n ≡ Equal) (sym e) (tied_itself total k) in rw t refl
    found_at k (x ∷ xs) h (suc i) d l e =
        let below : key_cmp x.key k ≡ Less = subst (λ n. key_cmp x.key n ≡ Less) e
        (above x.key xs h (slice_index_or xs i d) (in_get xs i d (omega arith))) in
        let g : key_cmp k x.key ≡ Greater = turned key_cmp total x.key k Less below in
        rw g (found_at k xs (rest_rises key_cmp x.key (map key_of xs) h) i d (omega arith) e)

    -- a key's events in a list in order are its entry in the list's map
    pub own : (k : Key) (xs : List Event) → IsInOrder xs
        → option_to_list (find key_cmp k (map pair_of xs)) ≡ map entry_of (filter (is_of k) xs)
    own k [] h = refl
    own k (x ∷ xs) h =
        elim (is_of k x) as (λ t. is_of k x ≡ t → option_to_list
        (cond t (Some (entry_of x)) (find key_cmp k (map pair_of xs)))
        ≡ map entry_of (cond t (x ∷ filter (is_of k) xs) (filter (is_of k) xs))) [
          | true ↦ λ t.
              let e : k ≡ x.key = exact k x.key ((Equal-is _).0 t) in
              let up = subst (λ n. IsTrue (rises_from key_cmp n (map key_of xs))) (sym e) h in
              ap (λ l. entry_of x ∷ map entry_of l) (sym (none_kept k xs (other_above k xs up)))
          | false ↦ λ t. own k xs (rest_rises key_cmp x.key (map key_of xs) h)
        ] refl
