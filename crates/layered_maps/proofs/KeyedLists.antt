-- Values at rising keys, keys and values side by side, and what is found at a key.
use Rattle.std.proofs.Common.{◌≡◌, ◌↔◌, ◌⊎◌, ℕ, zero, suc, ◌<◌, ◌≤◌, true, false, cond, IsTrue, List, []}
use Rattle.std.proofs.Common.{◌∷◌, ◌++◌, length, map, Some, None, inl, inr, refl, sym, ap, ◌∙◌, subst}
use Rattle.std.proofs.Common.{Contains, Ordering, slice_index_or, slice_get, arith}
use Rattle.std.specs.declared.cmp.Ordering.TheVariants.{Less, Equal, Greater}
use Rattle.std.specs.Ordering.{is_lt, is_eq, eq_by_cmp}
use Rattle.std.specs.Cmp.{IsTotalOrder, Equal-is}
use Rattle.std.specs.FinMap.{IsAntisymmetric, find}
use Rattle.std.specs.List.{zip}
use Rattle.std.specs.List.Sorted.{IsPartitionedBy, IsPartitionPoint}
use Rattle.std.proofs.lemmas.Bool.{cases_lt}
use Rattle.std.proofs.lemmas.Cmp.{tied_itself}
use Rattle.std.proofs.lemmas.Slice.Zip.{firsts-zip, length-zip}
use mathlib.Core.Bool.{false≢true}
use Rattle.ordered_lists.specs.Orders.{rises}
use Rattle.ordered_lists.proofs.ListMembers.{In, in_from_contains, contains_from_in, in_left, in_right, in_cases}
use Rattle.ordered_lists.proofs.Comparisons.{less, turned}
use Rattle.layered_maps.specs.Lists.{list_or_none}
use Rattle.layered_maps.proofs.Lookups.{far}

-- ---- lists mapped, and one behind the other

module _ {A B : Type 0} (f : A → B) where
  map_joined : (xs ys : List A) → map f (xs ++ ys) ≡ map f xs ++ map f ys
  map_joined [] ys = refl
  map_joined (x ∷ xs) ys = ap (λ l. f x ∷ l) (map_joined xs ys)

  map_long : (xs : List A) → length (map f xs) ≡ length xs
  map_long [] = refl
  map_long (x ∷ xs) = ap suc (map_long xs)

  pub map_more : (front : List A) (x : A) (all : List A) (old new : List B) (y : B) → all ≡ front ++ x ∷ []
      → old ≡ map f front → y ≡ f x → new ≡ old ++ y ∷ [] → new ≡ map f all
  map_more front x all old new y split before here after =
      after ∙ ap (λ l. l ++ y ∷ []) before ∙ ap (λ z. map f front ++ z ∷ []) here
      ∙ sym (ap (map f) split ∙ map_joined front (x ∷ []))

module _ {N : Type 0} where
  pub joined : (start first middle second all : List N) → start ≡ [] → middle ≡ start ++ first
      → all ≡ middle ++ second → all ≡ first ++ second
  joined start first middle second all e f g = g ∙ ap (λ l. l ++ second) (f ∙ ap (λ l. l ++ first) e)

  pub contains_joined : (first second all : List N) → all ≡ first ++ second → (k : N)
      → Contains all k ↔ (Contains first k ⊎ Contains second k)
  contains_joined first second all e k = (
    λ c. elim (in_cases first second k (in_from_contains (first ++ second) k (subst (λ l. Contains l k) e c))) [
      | inl i ↦ inl (contains_from_in first k i)
      | inr i ↦ inr (contains_from_in second k i)
    ],
    λ s. subst (λ l. Contains l k) (sym e) (contains_from_in (first ++ second) k (elim s [
      | inl c ↦ in_left first second k (in_from_contains first k c)
      | inr c ↦ in_right first second k (in_from_contains second k c)
    ])),
  )

  -- where there is a value, none has to stand for it
  any_default : (xs : List N) (i : ℕ) (d e : N) → i < length xs → slice_index_or xs i d ≡ slice_index_or xs i e
  any_default [] i d e l = absurd (omega arith)
  any_default (x ∷ xs) zero d e l = refl
  any_default (x ∷ xs) (suc i) d e l = any_default xs i d e (omega arith)

-- ---- keys and values side by side

module _ {K X : Type 0} where
  pub zip_long : (keys : List K) (values : List X) → length values ≡ length keys
      → length keys ≡ length (zip keys values)
  zip_long keys values even = let e = length-zip keys values in omega arith

  pub zip_more : (keys : List K) (values : List X) (k : K) (v : X) → length values ≡ length keys
      → zip (keys ++ k ∷ []) (values ++ v ∷ []) ≡ zip keys values ++ (k, v) ∷ []
  zip_more [] [] k v even = refl
  zip_more [] (w ∷ values) k v even = absurd (omega arith)
  zip_more (j ∷ keys) [] k v even = absurd (omega arith)
  zip_more (j ∷ keys) (w ∷ values) k v even = ap (λ l. (j, w) ∷ l) (zip_more keys values k v (omega arith))

  pub paired : (keys : List K) (values : List X) (k : K) → length values ≡ length keys → In k keys
      → (v : X) × In (k, v) (zip keys values)
  paired [] values k even i = absurd i
  paired (j ∷ keys) [] k even i = absurd (omega arith)
  paired (j ∷ keys) (w ∷ values) k even (inl e) = (w, inl (ap (λ z. (z, w)) e))
  paired (j ∷ keys) (w ∷ values) k even (inr i) =
      let r = paired keys values k (omega arith) i in (r.0, inr r.1)

-- ---- what is found at a key

above_only : (r : Ordering) → is_lt r ≡ false → is_eq r ≡ false → r ≡ Greater
above_only Less h g = cc
above_only Equal h g = cc
above_only Greater h g = refl

module _ {K X : Type 0} (R : K → K → Ordering) where
  pub found_first : (front behind : List (K × X)) (k : K) (x : X) → find R k front ≡ Some x
      → find R k (front ++ behind) ≡ Some x
  found_first [] behind k x e = cc
  found_first (p ∷ front) behind k x e =
      elim (eq_by_cmp R k p.0) as (λ b. cond b (Some p.1) (find R k front) ≡ Some x
      → cond b (Some p.1) (find R k (front ++ behind)) ≡ Some x) [
        | true ↦ λ h. h
        | false ↦ λ h. found_first front behind k x h
      ] e

  pub found_behind : (front behind : List (K × X)) (k : K) → find R k front ≡ None
      → find R k (front ++ behind) ≡ find R k behind
  found_behind [] behind k e = refl
  found_behind (p ∷ front) behind k e =
      elim (eq_by_cmp R k p.0) as (λ b. cond b (Some p.1) (find R k front) ≡ None
      → cond b (Some p.1) (find R k (front ++ behind)) ≡ find R k behind) [
        | true ↦ λ h. cc
        | false ↦ λ h. found_behind front behind k h
      ] e

  found_at : (keys : List K) (values : List X) (k : K) (i : ℕ) (d : K) (v : X)
      → ((j : ℕ) (e : K) → j < i → j < length keys → eq_by_cmp R k (slice_index_or keys j e) ≡ false)
      → i < length keys → eq_by_cmp R k (slice_index_or keys i d) ≡ true → slice_get values i ≡ Some v
      → find R k (zip keys values) ≡ Some v
  found_at [] values k i d v before within tied is = absurd (omega arith)
  found_at (j ∷ keys) [] k i d v before within tied is = cc
  found_at (j ∷ keys) (w ∷ values) k zero d v before within tied is =
      ap (λ b. cond b (Some w) (find R k (zip keys values))) tied ∙ is
  found_at (j ∷ keys) (w ∷ values) k (suc i) d v before within tied is =
      ap (λ b. cond b (Some w) (find R k (zip keys values))) (before 0 j (omega arith) (omega arith))
      ∙ found_at keys values k i d v (λ n e l m. before (suc n) e (omega arith) (omega arith)) (omega arith) tied is

  none_at : (keys : List K) (values : List X) (k : K)
      → ((j : ℕ) (e : K) → j < length keys → eq_by_cmp R k (slice_index_or keys j e) ≡ false)
      → find R k (zip keys values) ≡ None
  none_at [] values k apart = refl
  none_at (j ∷ keys) [] k apart = refl
  none_at (j ∷ keys) (w ∷ values) k apart =
      ap (λ b. cond b (Some w) (find R k (zip keys values))) (apart 0 j (omega arith))
      ∙ none_at keys values k (λ n e l. apart (suc n) e (omega arith))

-- ---- a search among rising keys

module _ {K : Type 0} (R : K → K → Ordering) (total : IsTotalOrder R) (keys : List K) (up : IsTrue (rises R keys))
    (k : K) where
  pub rising_parted : IsPartitionedBy (λ a. is_lt (R a k)) keys
  rising_parted i j d le l h = elim (cases_lt i j) [
    | inl m ↦ ap is_lt (total.trans (slice_index_or keys i d) (slice_index_or keys j d) k
        (far R total keys up i j d m l) (less _ h))
    | inr ge ↦ let e : j ≡ i = omega arith in subst (λ n. is_lt (R (slice_index_or keys n d) k) ≡ true) e h
  ]

  module _ {X : Type 0} (values : List X) (i : ℕ)
      (point : IsPartitionPoint (λ a. is_lt (R a k) ≡ true) (λ a. is_lt (R a k) ≡ false) keys i) where
    apart_before : (j : ℕ) (d : K) → j < i → eq_by_cmp R k (slice_index_or keys j d) ≡ false
    apart_before j d l =
        ap is_eq (turned R total (slice_index_or keys j d) k Less (less _ (point.0 j d (omega arith) l)))

    pub tied_found : (d : K) (v : X) → i < length keys → is_eq (R (slice_index_or keys i d) k) ≡ true
        → slice_get values i ≡ Some v → find R k (zip keys values) ≡ Some v
    tied_found d v within tied is =
        found_at R keys values k i d v (λ j e l m. apart_before j e l) within
        (ap is_eq (turned R total (slice_index_or keys i d) k Equal ((Equal-is _).0 tied))) is

    pub past_none : length keys ≤ i → find R k (zip keys values) ≡ None
    past_none past = none_at R keys values k (λ j e l. apart_before j e (omega arith))

    module _ (d : K) (within : i < length keys) (apart : is_eq (R (slice_index_or keys i d) k) ≡ false) where
      below_here : (e : K) → R k (slice_index_or keys i e) ≡ Less
      below_here e = turned R total (slice_index_or keys i e) k Greater
          (above_only _ (point.1 i e (omega arith) within)
          (subst (λ x. is_eq (R x k) ≡ false) (any_default keys i d e within) apart))

      below_behind : (j : ℕ) (e : K) → i ≤ j → j < length keys → R k (slice_index_or keys j e) ≡ Less
      below_behind j e le l = elim (cases_lt i j) [
        | inl m ↦ total.trans k (slice_index_or keys i e) (slice_index_or keys j e) (below_here e)
            (far R total keys up i j e m l)
        | inr ge ↦ let same : i ≡ j = omega arith in
            subst (λ n. R k (slice_index_or keys n e) ≡ Less) same (below_here e)
      ]

      pub apart_none : find R k (zip keys values) ≡ None
      apart_none = none_at R keys values k (λ j e l. elim (cases_lt j i) [
        | inl m ↦ apart_before j e m
        | inr ge ↦ ap is_eq (below_behind j e ge l)
      ])

-- ---- the later lists and the others

module _ {K : Type 0} (R : K → K → Ordering) (total : IsTotalOrder R) (exact : IsAntisymmetric R) where
  in_or_out : (keys : List K) (k : K) → Contains keys k ⊎ (¬ (Contains keys k))
  in_or_out [] k = inr (λ c. in_from_contains [] k c)
  in_or_out (x ∷ keys) k =
      elim (eq_by_cmp R k x) as (λ b. eq_by_cmp R k x ≡ b → Contains (x ∷ keys) k ⊎ (¬ (Contains (x ∷ keys) k))) [
        | true ↦ λ t. inl (contains_from_in (x ∷ keys) k (inl (exact k x ((Equal-is _).0 t))))
        | false ↦ λ t. elim (in_or_out keys k) [
          | inl c ↦ inl (contains_from_in (x ∷ keys) k (inr (in_from_contains keys k c)))
          | inr out ↦ inr (λ c. elim (in_from_contains (x ∷ keys) k c) [
            | inl e ↦ false≢true (sym t ∙ subst (λ y. eq_by_cmp R k y ≡ true) e (ap is_eq (tied_itself total k)))
            | inr i ↦ out (contains_from_in keys k i)
          ])
        ]
      ] refl

  tied_by : (k j : K) → k ≡ j → eq_by_cmp R k j ≡ true
  tied_by k j e = subst (λ y. eq_by_cmp R k y ≡ true) e (ap is_eq (tied_itself total k))

  module _ {X : Type 0} where
    some_found : (es : List (K × X)) (k : K) → In k (map (λ p. p.0) es) → (x : X) × (find R k es ≡ Some x)
    some_found [] k i = absurd i
    some_found (p ∷ es) k (inl e) =
        (p.1, ap (λ b. cond b (Some p.1) (find R k es)) (tied_by k p.0 e))
    some_found (p ∷ es) k (inr i) =
        let r = some_found es k i in
        elim (eq_by_cmp R k p.0) as (λ b. (x : X) × (cond b (Some p.1) (find R k es) ≡ Some x)) [
          | true ↦ (p.1, refl)
          | false ↦ (r.0, r.1)
        ]

    none_found : (es : List (K × X)) (k : K) → ¬ (In k (map (λ p. p.0) es)) → find R k es ≡ None
    none_found [] k out = refl
    none_found (p ∷ es) k out =
        elim (eq_by_cmp R k p.0) as (λ b. eq_by_cmp R k p.0 ≡ b → cond b (Some p.1) (find R k es) ≡ None) [
          | true ↦ λ t. absurd (out (inl (exact k p.0 ((Equal-is _).0 t))))
          | false ↦ λ t. none_found es k (λ i. out (inr i))
        ] refl

    mapped_found : (f : K → X) (keys : List K) (k : K) → In k keys → find R k (zip keys (map f keys)) ≡ Some (f k)
    mapped_found f [] k i = absurd i
    mapped_found f (j ∷ keys) k i =
        elim (eq_by_cmp R k j) as (λ b. eq_by_cmp R k j ≡ b
        → cond b (Some (f j)) (find R k (zip keys (map f keys))) ≡ Some (f k)) [
          | true ↦ λ t. ap (λ y. Some (f y)) (sym (exact k j ((Equal-is _).0 t)))
          | false ↦ λ t. elim i [
            | inl e ↦ absurd (false≢true (sym t ∙ tied_by k j e))
            | inr h ↦ mapped_found f keys k h
          ]
        ] refl

  module _ {V : Type 0} (own come keys : List K) (owns comes : List (List V)) (even : length owns ≡ length own)
      (level : length comes ≡ length come) (es : List (K × List V)) (all : es ≡ zip come comes ++ zip own owns)
      (is : (k : K) → Contains keys k ↔ (Contains own k ⊎ Contains come k)) where
    names : map (λ p. p.0) es ≡ come ++ own
    names = ap (map (λ (p : K × List V). p.0)) all
        ∙ map_joined (λ (p : K × List V). p.0) (zip come comes) (zip own owns)
        ∙ ap (λ l. l ++ map (λ (p : K × List V). p.0) (zip own owns)) (firsts-zip come comes level)
        ∙ ap (λ l. come ++ l) (firsts-zip own owns even)

    in_names : (k : K) → Contains keys k → In k (map (λ p. p.0) es)
    in_names k c = subst (λ l. In k l) (sym names) (elim ((is k).0 c) [
      | inl o ↦ in_right come own k (in_from_contains own k o)
      | inr o ↦ in_left come own k (in_from_contains come k o)
    ])

    from_names : (k : K) → In k (map (λ p. p.0) es) → Contains keys k
    from_names k i = (is k).1 (elim (in_cases come own k (subst (λ l. In k l) names i)) [
      | inl o ↦ inr (contains_from_in come k o)
      | inr o ↦ inl (contains_from_in own k o)
    ])

    abbrev list_of : K → List V
    list_of k = list_or_none (find R k es)

    pub merged_found : (k : K) → find R k (zip keys (map (λ j. list_or_none (find R j es)) keys)) ≡ find R k es
    merged_found k = elim (in_or_out keys k) [
      | inl c ↦ let r = some_found es k (in_names k c) in
          mapped_found list_of keys k (in_from_contains keys k c)
          ∙ ap (λ o. Some (list_or_none o)) r.1 ∙ sym r.1
      | inr out ↦
          none_found (zip keys (map list_of keys)) k (λ i. out (contains_from_in keys k
          (subst (λ l. In k l) (firsts-zip keys (map list_of keys) (map_long list_of keys)) i)))
          ∙ sym (none_found es k (λ i. out (from_names k i)))
    ]
