-- A stable sort by key and falling version, of which the first of each key stays, leaves the events that stand.
use Rattle.std.proofs.Common.{◌≡◌, ℕ, zero, suc, ◌<◌, ◌≤◌, Bool, true, false, cond, not, ◌&&◌, IsTrue, List, [], ◌∷◌}
use Rattle.std.proofs.Common.{length, map, filter, Option, Some, None, IfSome, inl, inr, ◌⊎◌, refl, sym, ap, ◌∙◌, subst}
use Rattle.std.proofs.Common.{arith, slice_index_or, Ordering, nat_le}
use Rattle.std.specs.declared.cmp.Ordering.TheVariants.{Less, Equal, Greater}
use Rattle.std.specs.Ordering.{is_lt, is_eq, ordering_reverse, ordering_then, nat_cmp}
use Rattle.std.specs.List.{dedup, dedup_from}
use Rattle.std.specs.List.Sorted.{IsPermutation, IsSortedBy, IsStableBy, ties}
use Rattle.std.specs.Cmp.{IsTotalOrder, Equal-is}
use Rattle.std.specs.FinMap.{empty, find, get-empty, get-from_entries}
use Rattle.std.proofs.lemmas.Bool.{and_from, cases_lt}
use Rattle.std.proofs.lemmas.Bool.Decides.{nat_tests}
use Rattle.std.proofs.lemmas.Cmp.{alike_right, on_total, then_total, back_total, nat_cmp_total}
use Rattle.std.proofs.lemmas.Map.Keys.{ge_from_not_lt}
use Rattle.std.proofs.lemmas.List.Sorted.{sorted_far, ranks_by, Contains-permutation}
use Rattle.road_base.specs.declared.ids.Key.{Key}
use Rattle.road_base.specs.declared.event.Event.{Event}
use Rattle.road_base.specs.Objects.{Entry, key_cmp}
use Rattle.road_base.specs.Applying.{entry_of, is_of, newer, first_greatest, IsApplied}
use Rattle.ordered_lists.specs.Orders.{rises_from}
use Rattle.object_store.specs.Listed.{key_of, pair_of, objects_of, IsInOrder}
use Rattle.ordered_lists.proofs.ListMembers.{In, in_from_contains, contains_from_in}
use Rattle.ordered_lists.proofs.Comparisons.{turned}
use Rattle.object_store.proofs.InOrder.{none_found, none_kept}

-- by key, and of one key the greater version first
abbrev pub before : Event → Event → Bool
before x y = is_lt (ordering_then (key_cmp x.key y.key) (nat_cmp y.version x.version))

-- of one key
abbrev pub same_key : Event → Event → Bool
same_key x y = is_eq (key_cmp x.key y.key)

-- no event comes before one that stands at or before its place
abbrev pub IsLaid : List Event → Type 0
IsLaid xs = (i j : ℕ) (d : Event) → i ≤ j → j < length xs
    → before (slice_index_or xs j d) (slice_index_or xs i d) ≡ false

tail_laid : (x : Event) (xs : List Event) → IsLaid (x ∷ xs) → IsLaid xs
tail_laid x xs far i j d le l = far (suc i) (suc j) d (omega arith) (omega arith)

drop_second : (y x : Event) (xs : List Event) → IsLaid (y ∷ x ∷ xs) → IsLaid (y ∷ xs)
drop_second y x xs far zero zero d le l = far 0 0 d (omega arith) (omega arith)
drop_second y x xs far zero (suc j) d le l = far 0 (suc (suc j)) d (omega arith) (omega arith)
drop_second y x xs far (suc i) zero d le l = absurd (omega arith)
drop_second y x xs far (suc i) (suc j) d le l = far (suc (suc i)) (suc (suc j)) d (omega arith) (omega arith)

laid_behind : (x : Event) (xs : List Event) → IsLaid (x ∷ xs) → (y : Event) → In y xs → before y x ≡ false
laid_behind x xs far y i =
    let c = contains_from_in xs y i in
    let l = c.1 in
    subst (λ z. before z x ≡ false) c.2 (far 0 (suc c.0) y (omega arith) (omega arith))

-- ---- versions of one key

at_one_key : (r : Ordering) (s : Ordering) → r ≡ Equal → ordering_then r s ≡ s
at_one_key Less s e = cc
at_one_key Equal s e = refl
at_one_key Greater s e = cc

level : (v w : ℕ) → v ≡ w → is_lt (nat_cmp v w) ≡ false
level v w h = grind (arith, nat_tests)

lower : (v w : ℕ) → v < w → is_lt (nat_cmp v w) ≡ true
lower v w h = grind (arith, nat_tests)

-- an entry at or above the version of what comes behind stands
newer_top : (e : Entry) (o : Option Entry) → IfSome o (λ l. l.version ≤ e.version) → newer e o ≡ Some e
newer_top e None h = refl
newer_top e (Some l) h = grind (arith, nat_tests)

newer_low : (e l : Entry) → e.version < l.version → newer e (Some l) ≡ Some l
newer_low e l h = grind (arith, nat_tests)

newer_bound : (e : Entry) (o : Option Entry) (v : ℕ) → e.version ≤ v → IfSome o (λ l. l.version ≤ v)
    → IfSome (newer e o) (λ l. l.version ≤ v)
newer_bound e None v h k = h
newer_bound e (Some l) v h k = elim (nat_le l.version e.version) as
    (λ t. IfSome (cond t (Some e) (Some l)) (λ m. m.version ≤ v)) [ true ↦ h | false ↦ k ]

greatest_bound : (k : Key) (v : ℕ) (xs : List Event) → ((y : Event) → In y xs → is_of k y ≡ true → y.version ≤ v)
    → IfSome (first_greatest (map entry_of (filter (is_of k) xs))) (λ l. l.version ≤ v)
greatest_bound k v [] low = tt
greatest_bound k v (x ∷ xs) low =
    let behind = greatest_bound k v xs (λ y i. low y (inr i)) in
    elim (is_of k x) as (λ t. is_of k x ≡ t → IfSome
    (first_greatest (map entry_of (cond t (x ∷ filter (is_of k) xs) (filter (is_of k) xs)))) (λ l. l.version ≤ v)) [
      | true ↦ λ t. newer_bound (entry_of x) _ v (low x (inl refl) t) behind
      | false ↦ λ t. behind
    ] refl

-- ---- what the first of each key leaves

shadowed : {A : Type 0} (b : Bool) (x y z : A) → cond b x z ≡ cond b x (cond b y z)
shadowed true x y z = refl
shadowed false x y z = refl

sooner_less : (r s : Ordering) → is_lt (ordering_then r s) ≡ false → is_eq r ≡ false → r ≡ Greater
sooner_less Less s h k = cc
sooner_less Equal s h k = cc
sooner_less Greater s h k = refl

module _ (total : IsTotalOrder key_cmp) where
  -- what stands first of a run of one key is found
  find_dedup_from : (k : Key) (y : Event) (xs : List Event)
      → find key_cmp k (map pair_of (dedup_from same_key y xs)) ≡ find key_cmp k (map pair_of (y ∷ xs))
  find_dedup_from k y [] = refl
  find_dedup_from k y (x ∷ xs) =
      elim (same_key x y) as (λ t. same_key x y ≡ t
      → find key_cmp k (map pair_of (cond t (dedup_from same_key y xs) (y ∷ dedup_from same_key x xs)))
      ≡ find key_cmp k (map pair_of (y ∷ x ∷ xs))) [
        | true ↦ λ t.
            let alike : is_of k x ≡ is_of k y = ap is_eq (alike_right total x.key y.key k ((Equal-is _).0 t)) in
            find_dedup_from k y xs ∙ shadowed (is_of k y) (Some (entry_of y)) (Some (entry_of x))
            (find key_cmp k (map pair_of xs)) ∙ ap
            (λ b. cond (is_of k y) (Some (entry_of y))
            (cond b (Some (entry_of x)) (find key_cmp k (map pair_of xs)))) (sym alike)
        | false ↦ λ t. ap (cond (is_of k y) (Some (entry_of y))) (find_dedup_from k x xs)
      ] refl

  pub find_dedup : (k : Key) (xs : List Event)
      → find key_cmp k (map pair_of (dedup same_key xs)) ≡ find key_cmp k (map pair_of xs)
  find_dedup k [] = refl
  find_dedup k (x ∷ xs) = find_dedup_from k x xs

  next_above : (y x : Event) (xs : List Event) → IsLaid (y ∷ x ∷ xs) → same_key x y ≡ false → key_cmp y.key x.key ≡ Less
  next_above y x xs far other = turned key_cmp total x.key y.key Greater
      (sooner_less _ _ (far 0 1 y (omega arith) (omega arith)) other)

  dedup_above : (n : Key) (y : Event) (xs : List Event) → IsLaid (y ∷ xs) → key_cmp n y.key ≡ Less
      → IsTrue (rises_from key_cmp n (map key_of (dedup_from same_key y xs)))
  dedup_above n y [] far low = and_from _ _ (ap is_lt low) refl
  dedup_above n y (x ∷ xs) far low =
      elim (same_key x y) as (λ t. same_key x y ≡ t
      → IsTrue (rises_from key_cmp n (map key_of
      (cond t (dedup_from same_key y xs) (y ∷ dedup_from same_key x xs))))) [
        | true ↦ λ t. dedup_above n y xs (drop_second y x xs far) low
        | false ↦ λ t. and_from _ _ (ap is_lt low)
            (dedup_above y.key x xs (tail_laid y (x ∷ xs) far) (next_above y x xs far t))
      ] refl

  dedup_rises : (y : Event) (xs : List Event) → IsLaid (y ∷ xs) → IsInOrder (dedup_from same_key y xs)
  dedup_rises y [] far = refl
  dedup_rises y (x ∷ xs) far =
      elim (same_key x y) as (λ t. same_key x y ≡ t
      → IsInOrder (cond t (dedup_from same_key y xs) (y ∷ dedup_from same_key x xs))) [
        | true ↦ λ t. dedup_rises y xs (drop_second y x xs far)
        | false ↦ λ t. dedup_above y.key x xs (tail_laid y (x ∷ xs) far) (next_above y x xs far t)
      ] refl

  in_order : (xs : List Event) → IsLaid xs → IsInOrder (dedup same_key xs)
  in_order [] far = refl
  in_order (x ∷ xs) far = dedup_rises x xs far

  -- ---- which event of a key stands first

  one_key : (k : Key) (x y : Event) → is_of k x ≡ true → is_of k y ≡ true → key_cmp x.key y.key ≡ Equal
  one_key k x y h g = sym (total.congr k x.key y.key ((Equal-is _).0 h)) ∙ (Equal-is _).0 g

  two_keys : (k : Key) (x y : Event) → is_of k x ≡ true → is_of k y ≡ false → is_eq (key_cmp x.key y.key) ≡ false
  two_keys k x y h g = ap is_eq (sym (total.congr k x.key y.key ((Equal-is _).0 h))) ∙ g

  -- of one key, what doesn't come before has no greater version
  no_later : (k : Key) (x y : Event) → is_of k x ≡ true → is_of k y ≡ true → before y x ≡ false → y.version ≤ x.version
  no_later k x y h g b = ge_from_not_lt x.version y.version (ap is_lt (sym (at_one_key _ _ (one_key k y x g h))) ∙ b)

  both_false : (a b : Bool) → a ≡ false → b ≡ false → (not a && not b) ≡ true
  both_false a b h g = rw (h, g) refl

  first_true : (a b : Bool) → a ≡ true → (not a && not b) ≡ false
  first_true a b h = rw h refl

  level_ties : (k : Key) (x y : Event) → is_of k x ≡ true → is_of k y ≡ true → y.version ≡ x.version
      → ties before x y ≡ true
  level_ties k x y h g e =
      both_false _ _ (ap is_lt (at_one_key _ _ (one_key k x y h g)) ∙ level y.version x.version e)
      (ap is_lt (at_one_key _ _ (one_key k y x g h)) ∙ level x.version y.version (sym e))

  lower_untied : (k : Key) (x y : Event) → is_of k x ≡ true → is_of k y ≡ true → y.version < x.version
      → ties before x y ≡ false
  lower_untied k x y h g l = first_true _ _ (ap is_lt (at_one_key _ _ (one_key k x y h g))
      ∙ lower y.version x.version l)

  apart : (r s t u : Ordering) → u ≡ ordering_reverse r → is_eq r ≡ false
      → (not (is_lt (ordering_then r s)) && not (is_lt (ordering_then u t))) ≡ false
  apart Less s t u e h = refl
  apart Equal s t u e h = cc
  apart Greater s t u e h = rw e refl

  other_untied : (k : Key) (x y : Event) → is_of k x ≡ true → is_of k y ≡ false → ties before x y ≡ false
  other_untied k x y h g = apart _ _ _ _ (total.antisymm y.key x.key) (two_keys k x y h g)

  -- the first event of the key, of which none has a greater version
  record IsFirst (k : Key) (xs : List Event) (e : Event) : Type 0 where
    found : find key_cmp k (map pair_of xs) ≡ Some (entry_of e)
    own : is_of k e ≡ true
    low : (y : Event) → In y xs → is_of k y ≡ true → y.version ≤ e.version
    rest : List Event
    tied : filter (ties before e) xs ≡ e ∷ rest

  first_of_key : (k : Key) (xs : List Event) → IsLaid xs
      → ((e : Event) × IsFirst k xs e) ⊎ ((x : Event) → In x xs → is_of k x ≡ false)
  first_of_key k [] far = inr (λ x i. absurd i)
  first_of_key k (x ∷ xs) far =
      elim (is_of k x) as (λ t. is_of k x ≡ t → ((e : Event) × IsFirst k (x ∷ xs) e)
      ⊎ ((y : Event) → In y (x ∷ xs) → is_of k y ≡ false)) [
        | true ↦ λ t. inl (
          x,
          record {
            found = rw t refl;
            own = t;
            low = λ y. elim [
              | inl e ↦ λ g. subst (λ z. y.version ≤ version_of z) e (omega arith)
              | inr i
                  ↦ λ g. no_later k x y t g (laid_behind x xs far y i)
            ];
            rest = filter (ties before x) xs;
            tied = rw (level_ties k x x t t refl) refl;
          },
        )
        | false ↦ λ t. elim (first_of_key k xs (tail_laid x xs far)) [
          | inl f ↦ let g = f.1 in inl (
            f.0,
            record {
              found = rw t g.found;
              own = g.own;
              low = λ y. elim [
                | inl e ↦ λ h. absurd (true_false _ (subst (λ z. is_of k z ≡ true) e h) t)
                | inr i
                    ↦ g.low y i
              ];
              rest = g.rest;
              tied = rw (other_untied k f.0 x g.own t) g.tied;
            },
          )
          | inr none ↦ inr (λ y. elim [ inl e ↦ subst (λ z. is_of k z ≡ false) (sym e) t | inr i ↦ none y i ])
        ]
      ] refl
    where
      version_of : Event → ℕ
      version_of e = e.version

      true_false : (b : Bool) → b ≡ true → b ≡ false → ⊥
      true_false b h g = cc

  -- wherever the others stand, that event stands
  greatest : (k : Key) (e : Event) (rest xs : List Event) → is_of k e ≡ true
      → ((y : Event) → In y xs → is_of k y ≡ true → y.version ≤ e.version) → filter (ties before e) xs ≡ e ∷ rest
      → first_greatest (map entry_of (filter (is_of k) xs)) ≡ Some (entry_of e)
  greatest k e rest [] own low tied = absurd (empty_list e rest tied)
    where
      empty_list : (e : Event) (rest : List Event) → [] ≡ e ∷ rest → ⊥
      empty_list e rest h = cc
  greatest k e rest (x ∷ xs) own low tied =
      elim (is_of k x) as (λ t. is_of k x ≡ t → first_greatest
      (map entry_of (cond t (x ∷ filter (is_of k) xs) (filter (is_of k) xs))) ≡ Some (entry_of e)) [
        | true ↦ λ t. elim (cases_lt x.version e.version) [
          | inl l ↦
              ap (newer (entry_of x)) (greatest k e rest xs own (λ y i. low y (inr i))
              (skipped (ties before e) x xs (e ∷ rest) (lower_untied k e x own t l) tied))
              ∙ newer_low (entry_of x) (entry_of e) l
          | inr le ↦
              let same : x ≡ e = kept (ties before e) x xs e rest
              (level_ties k e x own t (level_of x.version e.version (low x (inl refl) t) le)) tied in
              newer_top (entry_of x) _ (greatest_bound k x.version xs
              (λ y i g. over y.version e.version x.version (low y (inr i) g) le)) ∙ ap (λ z. Some (entry_of z)) same
        ]
        | false ↦ λ t. greatest k e rest xs own (λ y i. low y (inr i))
            (skipped (ties before e) x xs (e ∷ rest) (other_untied k e x own t) tied)
      ] refl
    where
      skipped : (p : Event → Bool) (x : Event) (xs l : List Event) → p x ≡ false → filter p (x ∷ xs) ≡ l
          → filter p xs ≡ l
      skipped p x xs l h e = sym (ap (λ b. cond b (x ∷ filter p xs) (filter p xs)) h) ∙ e

      kept : (p : Event → Bool) (x : Event) (xs : List Event) (e : Event) (rest : List Event) → p x ≡ true
          → filter p (x ∷ xs) ≡ e ∷ rest → x ≡ e
      kept p x xs e rest h f = let g : x ∷ filter p xs
          ≡ e ∷ rest = sym (ap (λ b. cond b (x ∷ filter p xs) (filter p xs)) h) ∙ f in cc

      level_of : (v w : ℕ) → v ≤ w → w ≤ v → v ≡ w
      level_of v w h g = omega arith

      over : (u v w : ℕ) → u ≤ v → v ≤ w → u ≤ w
      over u v w h g = omega arith

  order : IsTotalOrder (λ (x y : Event). ordering_then (key_cmp x.key y.key) (nat_cmp y.version x.version))
  order = then_total (on_total key_of total) (back_total (on_total (λ (e : Event). e.version) nat_cmp_total))

  pub laid : (xs : List Event) → IsSortedBy before xs → IsLaid xs
  laid xs sorted = sorted_far before (ranks_by order (λ (e : Event). e)) xs sorted

  pub settled : (xs ys : List Event) → IsPermutation xs ys → IsSortedBy before ys → IsStableBy before xs ys
      → IsApplied empty xs (objects_of (dedup same_key ys))
  settled xs ys moves sorted stable k =
      get-from_entries total (map pair_of (dedup same_key ys)) k ∙ find_dedup k ys
      ∙ elim (first_of_key k ys (laid ys sorted)) [
        | inl f ↦ let g = f.1 in g.found ∙ sym (greatest k f.0 g.rest xs g.own (λ y i. g.low y (moved y i))
            (sym (stable f.0) ∙ g.tied))
        | inr none ↦ none_found k ys none ∙ ap (λ l. first_greatest (map entry_of l))
            (sym (none_kept k xs (λ y i. none y (moved y i))))
      ] ∙ rw (get-empty key_cmp k) refl
    where
      moved : (y : Event) → In y xs → In y ys
      moved y i = in_from_contains ys y (Contains-permutation xs ys y moves (contains_from_in xs y i))

-- ---- the same by the orders that the code compares by

module _ (total : IsTotalOrder key_cmp) (cmp : Key → Key → Ordering) (by_cmp : (a b : Key) → cmp a b ≡ key_cmp a b)
    (eq : Key → Key → Bool) (by_eq : (a b : Key) → eq a b ≡ is_eq (key_cmp a b)) where
  abbrev before_by : Event → Event → Bool
  before_by x y = is_lt (ordering_then (cmp x.key y.key) (nat_cmp y.version x.version))

  abbrev same_by : Event → Event → Bool
  same_by x y = eq x.key y.key

  befores : before_by ≡ before
  befores i x y = is_lt (ordering_then (by_cmp x.key y.key i) (nat_cmp y.version x.version))

  sames : same_by ≡ same_key
  sames i x y = by_eq x.key y.key i

  deduped : (ys zs : List Event) → zs ≡ dedup same_by ys → zs ≡ dedup same_key ys
  deduped ys zs e = e ∙ ap (λ (f : Event → Event → Bool). dedup f ys) sames

  pub settled_by : (xs ys zs : List Event) → IsPermutation xs ys → IsSortedBy before_by ys → IsStableBy before_by xs ys
      → zs ≡ dedup same_by ys → IsApplied empty xs (objects_of zs)
  settled_by xs ys zs moves sorted stable e =
      subst (λ l. IsApplied empty xs (objects_of l)) (sym (deduped ys zs e))
      (settled total xs ys moves (subst (λ (f : Event → Event → Bool). IsSortedBy f ys) befores sorted)
      (subst (λ (f : Event → Event → Bool). IsStableBy f xs ys) befores stable))

  pub in_order_by : (ys zs : List Event) → IsSortedBy before_by ys → zs ≡ dedup same_by ys → IsInOrder zs
  in_order_by ys zs sorted e =
      subst IsInOrder (sym (deduped ys zs e)) (in_order total ys
      (laid total ys (subst (λ (f : Event → Event → Bool). IsSortedBy f ys) befores sorted)))
