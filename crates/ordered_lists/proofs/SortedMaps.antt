-- Strictly ascending lists of named things, and the finite maps from the names that they stand for.
use Rattle.std.proofs.Common.{◌≡◌, ◌⊎◌, Bool, true, false, cond, Option, Contains, ℕ, zero, suc, ◌+◌, ◌<◌, ◌≤◌, List}
use Rattle.std.proofs.Common.{[], ◌∷◌, length, map, inl, inr, refl, sym, ap, ◌∙◌, subst, arith, None, ◌-◌, Some}
use Rattle.std.proofs.Common.{slice_get, Result, Ok, Err, IfOk, IfErr, IsTrue, Ordering, slice_index_or, slice_set}
use Rattle.std.specs.declared.cmp.Ordering.TheVariants.{Less, Equal, Greater}
use Rattle.std.specs.List.{AllWithin, HoldsAt, insert, remove}
use Rattle.std.specs.List.Sorted.{IsSortedBy, IsBinarySearchResult}
use Rattle.std.specs.Ordering.{is_lt, eq_by_cmp}
use Rattle.std.specs.Cmp.{IsTotalOrder, Equal-is}
use Rattle.std.specs.FinMap.{FinMap, IsAntisymmetric, empty, get, entries, from_entries, find, put, len-empty}
use Rattle.std.specs.FinMap.{len-entries, entries-insert, get-from_entries, same_entries_map}
use Rattle.std.specs.FinMap.{insert as inserted}
use Rattle.std.specs.FinMap.{remove as removed, get-remove, same_map}
use Rattle.std.proofs.lemmas.Bool.{and_parts, and_from}
use Rattle.std.proofs.lemmas.Cmp.{tied_itself}
use Rattle.std.proofs.lemmas.List.{nil_from_length}
use Rattle.std.proofs.lemmas.Option.{get_or_from_slice_get}
use Rattle.std.proofs.lemmas.List.Sorted.{searchable_from_sorted}
use Rattle.ordered_lists.specs.Orders.{rises, rises_from}
use Rattle.ordered_lists.proofs.ListMembers.{In, in_get, in_from_contains, contains_from_in}
use Rattle.ordered_lists.proofs.Comparisons.{less, turned}
use Rattle.ordered_lists.proofs.AscendingLists.{rest_rises, above, behind_next}

-- what stands in a list of entries are the named things
pub values_of : {A N : Type 0} (name : A → N) (xs : List A) → map (λ (e : N × A). e.1) (map (λ a. (name a, a)) xs) ≡ xs
values_of name [] = refl
values_of name (x ∷ xs) = ap (λ l. x ∷ l) (values_of name xs)

module _ {A N : Type 0} (name : A → N) (R : N → N → Ordering) (total : IsTotalOrder R) where
  abbrev entry : A → N × A
  entry a = (name a, a)

  -- the map of a list
  abbrev pub map_of : List A → FinMap R A
  map_of xs = from_entries (map entry xs)

  put_front : (x : A) (xs : List A) → IsTrue (rises_from R (name x) (map name xs))
      → put R (name x) x (map entry xs) ≡ (name x, x) ∷ map entry xs
  put_front x [] h = refl
  put_front x (y ∷ ys) h = let e : R (name x) (name y) ≡ Less = less _ (and_parts _ _ h).0 in rw e refl

  no_entries : entries (empty {X = A} {R = R}) ≡ []
  no_entries = nil_from_length _ (sym (len-entries empty) ∙ len-empty R A)

  -- an ascending list has the entries of its map, in order
  pub entries_of : (xs : List A) → IsTrue (rises R (map name xs)) → entries (map_of xs) ≡ map entry xs
  entries_of [] h = no_entries
  entries_of (x ∷ xs) h =
      entries-insert total (map_of xs) (name x) x
      ∙ ap (put R (name x) x) (entries_of xs (rest_rises R (name x) (map name xs) h)) ∙ put_front x xs h

  neighbours : (xs : List A) → IsTrue (rises R (map name xs)) → (k : ℕ) (d : A) → suc k < length xs
      → R (name (slice_index_or xs k d)) (name (slice_index_or xs (suc k) d)) ≡ Less
  neighbours [] h k d l = absurd (omega arith)
  neighbours (x ∷ []) h k d l = absurd (omega arith)
  neighbours (x ∷ y ∷ ys) h zero d l = less _ (and_parts _ _ h).0
  neighbours (x ∷ y ∷ ys) h (suc k) d l = neighbours (y ∷ ys) (and_parts _ _ h).1 k d (omega arith)

  is_sorted : (xs : List A) → IsTrue (rises R (map name xs)) → IsSortedBy (λ a b. is_lt (R (name a) (name b))) xs
  is_sorted xs h k d z l = let e : k + 1 ≡ suc k = omega arith in rw e
      (ap is_lt (turned R total _ _ _ (neighbours xs h k d (omega arith))))

  -- ---- what a search for n finds

  pub search_found : IsAntisymmetric R → (n : N) (xs : List A) (r : Result ℕ ℕ)
      → IsBinarySearchResult (λ y. R (name y) n) xs r → IfOk r (HoldsAt (λ y. name y ≡ n) xs)
  search_found same n xs (Ok i) h = λ d. same _ _ (h d)
  search_found same n xs (Err i) h = tt

  pub search_below : (n : N) (xs : List A) (r : Result ℕ ℕ) → IsTrue (rises R (map name xs))
      → IsBinarySearchResult (λ y. R (name y) n) xs r → IfErr r (AllWithin (λ y. R (name y) n ≡ Less) xs 0)
  search_below n xs (Ok i) s h = tt
  search_below n xs (Err i) s h = (h (searchable_from_sorted total name xs n (is_sorted xs s))).0

  pub search_behind : (n : N) (xs : List A) (r : Result ℕ ℕ) → IsTrue (rises R (map name xs))
      → IsBinarySearchResult (λ y. R (name y) n) xs r
      → IfErr r (λ i. AllWithin (λ y. R (name y) n ≡ Greater) xs i (length xs))
  search_behind n xs (Ok i) s h = tt
  search_behind n xs (Err i) s h = (h (searchable_from_sorted total name xs n (is_sorted xs s))).1

  all_below : (n : N) (xs : List A) (x : A) (i : ℕ) → IsTrue (rises R (map name xs)) → i + 1 ≡ length xs
      → slice_get xs i ≡ Some x → R (name x) n ≡ Less → (k : ℕ) (d : A) → k < length xs
      → R (name (slice_index_or xs k d)) n ≡ Less
  all_below n [] x i h j e l k d w = absurd (omega arith)
  all_below n (y ∷ []) x zero h j e l zero d w = let f : x ≡ y = cc in subst (λ z. R (name z) n ≡ Less) f l
  all_below n (y ∷ []) x zero h j e l (suc k) d w = absurd (omega arith)
  all_below n (y ∷ []) x (suc i) h j e l k d w = absurd (omega arith)
  all_below n (y ∷ z ∷ zs) x zero h j e l k d w = absurd (omega arith)
  all_below n (y ∷ z ∷ zs) x (suc i) h j e l zero d w =
      let p = and_parts _ _ h in total.trans (name y) (name z) n (less _ p.0)
      (all_below n (z ∷ zs) x i p.1 (omega arith) e l 0 d (omega arith))
  all_below n (y ∷ z ∷ zs) x (suc i) h j e l (suc k) d w = all_below n (z ∷ zs) x i (and_parts _ _ h).1 (omega arith) e
      l k d (omega arith)

  -- a list is below n where its last is
  pub below_last : (n : N) (xs : List A) (x : A) → IsTrue (rises R (map name xs)) → 0 < length xs
      → slice_get xs (length xs - 1) ≡ Some x → R (name x) n ≡ Less
      → AllWithin (λ y. R (name y) n ≡ Less) xs 0 (length xs)
  below_last n xs x h some e l k d z w = all_below n xs x (length xs - 1) h (omega arith) e l k d w

  later_above : (y x : A) (ys : List A) (i : ℕ) → IsTrue (rises R (map name (y ∷ ys))) → i < length ys
      → slice_get ys i ≡ Some x → R (name y) (name x) ≡ Less
  later_above y x ys i h w e =
      let at : slice_index_or ys i x ≡ x = get_or_from_slice_get ys i x x e in
      less _ (above name R total (name y) ys h x (subst (λ z. In z ys) at (in_get ys i x w)))

  -- an ascending list is below n up to a place where it is
  pub below_to : (n : N) (xs : List A) (x : A) (i : ℕ) → IsTrue (rises R (map name xs)) → i < length xs
      → slice_get xs i ≡ Some x → R (name x) n ≡ Less → (k : ℕ) (d : A) → k < i + 1
      → R (name (slice_index_or xs k d)) n ≡ Less
  below_to n [] x i h w e l k d b = absurd (omega arith)
  below_to n (y ∷ ys) x zero h w e l zero d b = let f : x ≡ y = cc in subst (λ z. R (name z) n ≡ Less) f l
  below_to n (y ∷ ys) x zero h w e l (suc k) d b = absurd (omega arith)
  below_to n (y ∷ ys) x (suc i) h w e l zero d b =
      total.trans (name y) (name x) n (later_above y x ys i h (omega arith) e) l
  below_to n (y ∷ ys) x (suc i) h w e l (suc k) d b =
      below_to n ys x i (rest_rises R (name y) (map name ys) h) (omega arith) e l k d (omega arith)

  -- and above n from a place where it is
  pub above_from : (n : N) (xs : List A) (x : A) (i : ℕ) → IsTrue (rises R (map name xs))
      → slice_get xs i ≡ Some x → R (name x) n ≡ Greater → AllWithin (λ y. R (name y) n ≡ Greater) xs i (length xs)
  above_from n [] x i h e g k d b w = absurd (omega arith)
  above_from n (y ∷ ys) x zero h e g zero d b w = let f : x ≡ y = cc in subst (λ z. R (name z) n ≡ Greater) f g
  above_from n (y ∷ ys) x zero h e g (suc k) d b w =
      let f : x ≡ y = cc in
      let up : R n (name y) ≡ Less = turned R total _ _ _ (subst (λ z. R (name z) n ≡ Greater) f g) in
      let later = above name R total (name y) ys h (slice_index_or ys k d) (in_get ys k d (omega arith)) in
      turned R total _ _ _ (total.trans n (name y) (name (slice_index_or ys k d)) up (less _ later))
  above_from n (y ∷ ys) x (suc i) h e g zero d b w = absurd (omega arith)
  above_from n (y ∷ ys) x (suc i) h e g (suc k) d b w =
      above_from n ys x i (rest_rises R (name y) (map name ys) h) e g k d (omega arith) (omega arith)

  -- ---- a list whose names below a place are below n, and from there on above

  pub record IsGap (n : N) (xs : List A) (i : ℕ) : Type 0 where
    pub within : i ≤ length xs
    pub below : AllWithin (λ x. R (name x) n ≡ Less) xs 0 i
    pub behind : AllWithin (λ x. R (name x) n ≡ Greater) xs i (length xs)

  pub gap_of : (n : N) (xs ys : List A) (i : ℕ) → xs ≡ ys → i ≤ length xs → AllWithin (λ x. R (name x) n ≡ Less) xs 0 i
      → AllWithin (λ x. R (name x) n ≡ Greater) xs i (length xs) → IsGap n ys i
  gap_of n xs ys i e within below behind = subst (λ l. IsGap n l i) e
      (record { within = within; below = below; behind = behind })

  tail_gap : (n : N) (y : A) (ys : List A) (i : ℕ) → IsGap n (y ∷ ys) (suc i) → IsGap n ys i
  tail_gap n y ys i g = let w = g.within in record {
    within = omega arith;
    below = λ k d l h. g.below (suc k) d (omega arith) (omega arith);
    behind = λ k d l h. g.behind (suc k) d (omega arith) (omega arith);
  }

  rest_gap : (n : N) (y : A) (ys : List A) → IsGap n (y ∷ ys) 0 → IsGap n ys 0
  rest_gap n y ys g = record {
    within = omega arith;
    below = λ k d l h. absurd (omega arith);
    behind = λ k d l h. g.behind (suc k) d (omega arith) (omega arith);
  }

  put_gap : (x : A) (xs : List A) (i : ℕ) → IsGap (name x) xs i
      → put R (name x) x (map entry xs) ≡ map entry (insert xs i x)
  put_gap x [] zero g = refl
  put_gap x [] (suc i) g = refl
  put_gap x (y ∷ ys) zero g = let e : R (name x) (name y)
      ≡ Less = turned R total _ _ _ (g.behind 0 y (omega arith) (omega arith)) in rw e refl
  put_gap x (y ∷ ys) (suc i) g =
      let e : R (name x) (name y) ≡ Greater = turned R total _ _ _ (g.below 0 y (omega arith) (omega arith)) in
      rw e (ap (λ es. entry y ∷ es) (put_gap x ys i (tail_gap (name x) y ys i g)))

  rises_gap : (m : N) (x : A) (xs : List A) (i : ℕ) → R m (name x) ≡ Less → IsTrue (rises_from R m (map name xs))
      → IsGap (name x) xs i → IsTrue (rises_from R m (map name (insert xs i x)))
  rises_gap m x [] zero e h g = and_from _ _ (ap is_lt e) refl
  rises_gap m x [] (suc i) e h g = and_from _ _ (ap is_lt e) refl
  rises_gap m x (y ∷ ys) zero e h g = and_from _ _ (ap is_lt e)
      (and_from _ _ (ap is_lt (turned R total _ _ _ (g.behind 0 y (omega arith) (omega arith)))) (and_parts _ _ h).1)
  rises_gap m x (y ∷ ys) (suc i) e h g =
      let p = and_parts _ _ h in and_from _ _ p.0
      (rises_gap (name y) x ys i (g.below 0 y (omega arith) (omega arith)) p.1 (tail_gap (name x) y ys i g))

  -- what is put into its gap leaves the list ascending
  pub rises_insert : (x : A) (xs : List A) (i : ℕ) → IsTrue (rises R (map name xs)) → IsGap (name x) xs i
      → IsTrue (rises R (map name (insert xs i x)))
  rises_insert x [] zero h g = refl
  rises_insert x [] (suc i) h g = refl
  rises_insert x (y ∷ ys) zero h g = and_from _ _
      (ap is_lt (turned R total _ _ _ (g.behind 0 y (omega arith) (omega arith)))) h
  rises_insert x (y ∷ ys) (suc i) h g = rises_gap (name y) x ys i (g.below 0 y (omega arith) (omega arith)) h
      (tail_gap (name x) y ys i g)

  -- and puts it into the map
  pub map_insert : (x : A) (xs : List A) (i : ℕ) → IsTrue (rises R (map name xs)) → IsGap (name x) xs i
      → map_of (insert xs i x) ≡ inserted (map_of xs) (name x) x
  map_insert x xs i h g = same_entries_map _ _
      (entries_of (insert xs i x) (rises_insert x xs i h g) ∙ sym (put_gap x xs i g)
      ∙ ap (put R (name x) x) (sym (entries_of xs h)) ∙ sym (entries-insert total (map_of xs) (name x) x))

  find_gap : (n : N) (xs : List A) (i : ℕ) → IsGap n xs i → find R n (map entry xs) ≡ None
  find_gap n [] i g = refl
  find_gap n (y ∷ ys) zero g = let e : R n (name y)
      ≡ Less = turned R total _ _ _ (g.behind 0 y (omega arith) (omega arith)) in
      rw e (find_gap n ys zero (rest_gap n y ys g))
  find_gap n (y ∷ ys) (suc i) g = let e : R n (name y)
      ≡ Greater = turned R total _ _ _ (g.below 0 y (omega arith) (omega arith)) in
      rw e (find_gap n ys i (tail_gap n y ys i g))

  -- nothing of that name is in the map
  pub get_gap : (n : N) (xs : List A) (i : ℕ) → IsGap n xs i → get (map_of xs) n ≡ None
  get_gap n xs i g = get-from_entries total (map entry xs) n ∙ find_gap n xs i g

  -- ---- members of an ascending list, by their names

  find_member : (x : A) (xs : List A) → IsTrue (rises R (map name xs)) → In x xs
      → find R (name x) (map entry xs) ≡ Some x
  find_member x [] h i = absurd i
  find_member x (y ∷ ys) h (inl e) =
      let tied : R (name x) (name y) ≡ Equal = subst (λ z. R (name x) (name z) ≡ Equal) e (tied_itself total (name x))
      in
      rw tied (ap (λ z. Some z) (sym e))
  find_member x (y ∷ ys) h (inr i) =
      let l : R (name y) (name x) ≡ Less = less _ (above name R total (name y) ys h x i) in
      let g : R (name x) (name y) ≡ Greater = turned R total _ _ _ l in
      rw g (find_member x ys (rest_rises R (name y) (map name ys) h) i)

  -- a member stands under its name
  pub get_member : (x : A) (xs : List A) → IsTrue (rises R (map name xs)) → Contains xs x
      → get (map_of xs) (name x) ≡ Some x
  get_member x xs h has = get-from_entries total (map entry xs) (name x)
      ∙ find_member x xs h (in_from_contains xs x has)

  first_or_later : (b : Bool) (y x : A) (later : Option A) → cond b (Some y) later ≡ Some x → (x ≡ y) ⊎ (later ≡ Some x)
  first_or_later true y x later e = inl (cc)
  first_or_later false y x later e = inr e

  found_member : (n : N) (x : A) (xs : List A) → find R n (map entry xs) ≡ Some x → In x xs
  found_member n x [] e = cc
  found_member n x (y ∷ ys) e =
      elim (first_or_later (eq_by_cmp R n (name y)) y x (find R n (map entry ys)) e)
      [ inl same ↦ inl same | inr later ↦ inr (found_member n x ys later) ]

  -- what stands under a name is a member
  pub member_of_get : (n : N) (x : A) (xs : List A) → get (map_of xs) n ≡ Some x → Contains xs x
  member_of_get n x xs e = contains_from_in xs x
      (found_member n x xs (sym (get-from_entries total (map entry xs) n) ∙ e))

  -- what stands under a name that was found
  pub get_at : (n : N) (xs : List A) (i : ℕ) (d : A) → IsTrue (rises R (map name xs)) → i < length xs
      → HoldsAt (λ y. name y ≡ n) xs i → get (map_of xs) n ≡ Some (slice_index_or xs i d)
  get_at n xs i d h w e = subst (λ m. get (map_of xs) m ≡ Some (slice_index_or xs i d)) (e d)
      (get_member (slice_index_or xs i d) xs h (contains_from_in xs _ (in_get xs i d w)))

  -- ---- one taken out

  rises_less : (m : N) (xs : List A) (i : ℕ) → IsTrue (rises_from R m (map name xs))
      → IsTrue (rises_from R m (map name (remove xs i)))
  rises_less m [] zero h = refl
  rises_less m [] (suc i) h = refl
  rises_less m (y ∷ ys) zero h = behind_next R total m (name y) (map name ys) h
  rises_less m (y ∷ ys) (suc i) h = let p = and_parts _ _ h in and_from _ _ p.0 (rises_less (name y) ys i p.1)

  pub rises_remove : (xs : List A) (i : ℕ) → IsTrue (rises R (map name xs)) → IsTrue (rises R (map name (remove xs i)))
  rises_remove [] zero h = refl
  rises_remove [] (suc i) h = refl
  rises_remove (y ∷ ys) zero h = rest_rises R (name y) (map name ys) h
  rises_remove (y ∷ ys) (suc i) h = rises_less (name y) ys i h

  none_above : (n : N) (xs : List A) → IsTrue (rises_from R n (map name xs)) → find R n (map entry xs) ≡ None
  none_above n [] h = refl
  none_above n (y ∷ ys) h = let e : R n (name y)
      ≡ Less = less _ (and_parts _ _ h).0 in rw e (none_above n ys (behind_next R total n (name y) (map name ys) h))

  -- its name isn't found any more
  find_removed : (n : N) (xs : List A) (i : ℕ) → IsTrue (rises R (map name xs)) → i < length xs
      → HoldsAt (λ y. name y ≡ n) xs i → find R n (map entry (remove xs i)) ≡ None
  find_removed n [] i h w e = absurd (omega arith)
  find_removed n (y ∷ ys) zero h w e = subst (λ m. find R m (map entry ys) ≡ None) (e y) (none_above (name y) ys h)
  find_removed n (y ∷ ys) (suc i) h w e =
      let l : R (name y) n ≡ Less = less _ (subst (λ m. IsTrue (is_lt (R (name y) m))) (e y)
      (above name R total (name y) ys h (slice_index_or ys i y) (in_get ys i y (omega arith)))) in
      let g : R n (name y) ≡ Greater = turned R total _ _ _ l in
      rw g (find_removed n ys i (rest_rises R (name y) (map name ys) h) (omega arith) e)

  -- and any other name as before
  find_other : (q n : N) (xs : List A) (i : ℕ) → eq_by_cmp R q n ≡ false → i < length xs
      → HoldsAt (λ y. name y ≡ n) xs i → find R q (map entry (remove xs i)) ≡ find R q (map entry xs)
  find_other q n [] i f w e = absurd (omega arith)
  find_other q n (y ∷ ys) zero f w e = let g : eq_by_cmp R q (name y)
      ≡ false = subst (λ m. eq_by_cmp R q m ≡ false) (sym (e y)) f in rw g refl
  find_other q n (y ∷ ys) (suc i) f w e = ap (cond (eq_by_cmp R q (name y)) (Some y))
      (find_other q n ys i f (omega arith) e)

  find_without : IsAntisymmetric R → (q n : N) (xs : List A) (i : ℕ) → IsTrue (rises R (map name xs)) → i < length xs
      → HoldsAt (λ y. name y ≡ n) xs i → (b : Bool) → eq_by_cmp R q n ≡ b
      → find R q (map entry (remove xs i)) ≡ cond b None (find R q (map entry xs))
  find_without same q n xs i h w e true t =
      let one : q ≡ n = same q n ((Equal-is _).0 t) in
      subst (λ m. find R m (map entry (remove xs i)) ≡ None) (sym one) (find_removed n xs i h w e)
  find_without same q n xs i h w e false t = find_other q n xs i t w e

  -- what is taken out of the list is taken out of the map
  pub map_remove : IsAntisymmetric R → (n : N) (xs : List A) (i : ℕ) → IsTrue (rises R (map name xs)) → i < length xs
      → HoldsAt (λ y. name y ≡ n) xs i → map_of (remove xs i) ≡ removed (map_of xs) n
  map_remove same n xs i h w e = same_map total same _ _
      (λ q. get-from_entries total (map entry (remove xs i)) q ∙ find_without same q n xs i h w e _ refl
      ∙ ap (cond (eq_by_cmp R q n) None) (sym (get-from_entries total (map entry xs) q))
      ∙ sym (get-remove total (map_of xs) n q))

  without_none : IsAntisymmetric R → (m : FinMap R A) (n q : N) → get m n ≡ None → (b : Bool) → eq_by_cmp R q n ≡ b
      → get m q ≡ cond b None (get m q)
  without_none same m n q e true t =
      let one : q ≡ n = same q n ((Equal-is _).0 t) in subst (λ k. get m k ≡ None) (sym one) e
  without_none same m n q e false t = refl

  -- a map without a name loses nothing by its removal
  pub remove_none : IsAntisymmetric R → (m : FinMap R A) (n : N) → get m n ≡ None → m ≡ removed m n
  remove_none same m n e = same_map total same _ _
      (λ q. without_none same m n q e _ refl ∙ sym (get-remove total m n q))

  -- ---- one put in the place of another of its name

  names_set : (x : A) (xs : List A) (i : ℕ) → i < length xs → HoldsAt (λ y. name y ≡ name x) xs i
      → map name (slice_set xs i x) ≡ map name xs
  names_set x [] i w e = refl
  names_set x (y ∷ ys) zero w e = ap (λ n. n ∷ map name ys) (sym (e y))
  names_set x (y ∷ ys) (suc i) w e = ap (λ ns. name y ∷ ns) (names_set x ys i (omega arith) e)

  pub rises_set : (x : A) (xs : List A) (i : ℕ) → IsTrue (rises R (map name xs)) → i < length xs
      → HoldsAt (λ y. name y ≡ name x) xs i → IsTrue (rises R (map name (slice_set xs i x)))
  rises_set x xs i h w e = subst (λ ns. IsTrue (rises R ns)) (sym (names_set x xs i w e)) h

  put_set : (x : A) (xs : List A) (i : ℕ) → IsTrue (rises R (map name xs)) → i < length xs
      → HoldsAt (λ y. name y ≡ name x) xs i → put R (name x) x (map entry xs) ≡ map entry (slice_set xs i x)
  put_set x [] i h w e = absurd (omega arith)
  put_set x (y ∷ ys) zero h w e =
      let tied : R (name x) (name y) ≡ Equal = subst (λ n. R (name x) n ≡ Equal) (sym (e y))
      (tied_itself total (name x)) in
      rw tied (ap (λ n. (n, x) ∷ map entry ys) (e y))
  put_set x (y ∷ ys) (suc i) h w e =
      let l : R (name y) (name x) ≡ Less = less _
      (subst (λ n. IsTrue (is_lt (R (name y) n))) (e y)
      (above name R total (name y) ys h (slice_index_or ys i y) (in_get ys i y (omega arith)))) in
      let g : R (name x) (name y) ≡ Greater = turned R total _ _ _ l in
      rw g (ap (λ es. entry y ∷ es) (put_set x ys i (rest_rises R (name y) (map name ys) h) (omega arith) e))

  pub map_set : (x : A) (xs : List A) (i : ℕ) → IsTrue (rises R (map name xs)) → i < length xs
      → HoldsAt (λ y. name y ≡ name x) xs i → map_of (slice_set xs i x) ≡ inserted (map_of xs) (name x) x
  map_set x xs i h w e = same_entries_map _ _
      (entries_of (slice_set xs i x) (rises_set x xs i h w e) ∙ sym (put_set x xs i h w e)
      ∙ ap (put R (name x) x) (sym (entries_of xs h)) ∙ sym (entries-insert total (map_of xs) (name x) x))
