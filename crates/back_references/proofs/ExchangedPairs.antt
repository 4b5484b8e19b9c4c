-- Lists of values that are exchanged, and what keys have then.
use Rattle.std.proofs.Common.{◌≡◌, ◌↔◌, ℕ, ◌+◌, Bool, true, false, cond}
use Rattle.std.proofs.Common.{IsTrue, List, [], ◌∷◌, ◌++◌, map, length, Option, Some}
use Rattle.std.proofs.Common.{None, Result, Ok, Err, inl, inr, ◌⊎◌}
use Rattle.std.proofs.Common.{refl, sym, ap, ◌∙◌, subst, Contains, Ordering, slice_index_or}
use Rattle.std.proofs.Common.{arith, is_ok}
use Rattle.std.specs.declared.cmp.Ordering.TheVariants.{Less, Equal}
use Rattle.std.specs.Ordering.{is_lt, is_eq, eq_by_cmp}
use Rattle.std.specs.Cmp.{IsTotalOrder, Equal-is}
use Rattle.std.specs.FinMap.{IsAntisymmetric, find}
use Rattle.std.specs.List.Sorted.{IsSearchInRange, IsBinarySearchResult, IsSortedBy}
use Rattle.std.proofs.lemmas.Bool.{cases_lt}
use Rattle.std.proofs.lemmas.Cmp.{tied_itself}
use Rattle.std.proofs.lemmas.List.Sorted.{searchable_from_sorted}
use Rattle.ordered_lists.specs.Orders.{rises, Lists}
use Rattle.ordered_lists.proofs.ListMembers.{In, in_from_contains, contains_from_in}
use Rattle.ordered_lists.proofs.ListMembers.{in_left, in_right, in_cases, contains_map}
use Rattle.ordered_lists.proofs.Comparisons.{turned}
use Rattle.layered_maps.specs.Lists.{Held, Has, Ascend, IsAmong}
use Rattle.layered_maps.proofs.Lookups.{far}
use Rattle.back_references.specs.Exchanges.{Stays, IsChosen, IsExchangedAt}
use mathlib.Core.Bool.{false≢true}

pub contains_left : {A : Type 0} (a b : List A) (x : A) → Contains a x → Contains (a ++ b) x
contains_left a b x c = contains_from_in (a ++ b) x (in_left a b x (in_from_contains a x c))

pub contains_right : {A : Type 0} (a b : List A) (x : A) → Contains b x → Contains (a ++ b) x
contains_right a b x c = contains_from_in (a ++ b) x (in_right a b x (in_from_contains b x c))

contains_either : {A : Type 0} (a b : List A) (x : A) → Contains (a ++ b) x → Contains a x ⊎ Contains b x
contains_either a b x c = elim (in_cases a b x (in_from_contains (a ++ b) x c)) [
  | inl i ↦ inl (contains_from_in a x i)
  | inr i ↦ inr (contains_from_in b x i)
]

-- ---- keys of pairs

pub key_in : {K V : Type 0} (left keys now : List K) (pairs : List (K × V)) (right : List K)
    → keys ≡ left ++ map (λ p. p.0) pairs
    → ((k : K) → Contains keys k → Contains right k) → ((k : K) → Contains now k ↔ Contains right k) → (p : K × V)
    → Contains pairs p → Contains now p.0
key_in {K = K} {V = V} left keys now pairs right e up same p c =
    (same p.0).1 (up p.0 (subst (λ l. Contains l p.0) (sym e)
    (contains_right left (map (λ q. q.0) pairs) p.0 (contains_map (λ (q : K × V). q.0) pairs p c))))

-- ---- values without those that are gone

module _ {V : Type 0} where
  abbrev pub AreOthers : List V → List V → List V → Type 0
  AreOthers values gone list = (v : V) → Contains list v ↔ (Contains values v × ¬ (Contains gone v))

  none_in : (v : V) → Contains [] v → ⊥
  none_in v c = in_from_contains [] v c

  pub others_none : (gone list : List V) → list ≡ [] → AreOthers [] gone list
  others_none gone list e v = (
    λ c. absurd (none_in v (subst (λ l. Contains l v) e c)),
    λ p. absurd (none_in v p.0),
  )

  pub others_more : (front gone list next : List V) (value : V) → AreOthers front gone list
      → ((v : V) → Contains next v ↔ (Contains list v ⊎ ((v ≡ value) × ¬ (Contains gone value))))
      → AreOthers (front ++ value ∷ []) gone next
  others_more front gone list next value are step v = (
    λ c. elim ((step v).0 c) [
      | inl old ↦ let p = (are v).0 old in (contains_left front (value ∷ []) v p.0, p.1)
      | inr here ↦ (
        contains_right front (value ∷ []) v (contains_from_in (value ∷ []) v (inl here.0)),
        subst (λ w. ¬ (Contains gone w)) (sym here.0) here.1,
      )
    ],
    λ p. (step v).1 (elim (in_cases front (value ∷ []) v (in_from_contains (front ++ value ∷ []) v p.0)) [
      | inl i ↦ inl ((are v).1 (contains_from_in front v i, p.1))
      | inr i ↦ elim i [
        | inl e ↦ inr (e, subst (λ w. ¬ (Contains gone w)) e p.1)
        | inr none ↦ absurd none
      ]
    ]),
  )

  pub value_added : (old new : List V) (value : V) (gone : List V) → new ≡ old ++ value ∷ [] → ¬ (Contains gone value)
      → (v : V) → Contains new v ↔ (Contains old v ⊎ ((v ≡ value) × ¬ (Contains gone value)))
  value_added old new value gone e out v = (
    λ c. elim (in_cases old (value ∷ []) v (in_from_contains (old ++ value ∷ []) v (subst (λ l. Contains l v) e c))) [
      | inl i ↦ inl (contains_from_in old v i)
      | inr i ↦ elim i [ inl h ↦ inr (h, out) | inr none ↦ absurd none ]
    ],
    λ p. subst (λ l. Contains l v) (sym e) (elim p [
      | inl c ↦ contains_left old (value ∷ []) v c
      | inr h ↦ contains_right old (value ∷ []) v (contains_from_in (value ∷ []) v (inl h.0))
    ]),
  )

  pub exchanged_lists : (values gone come kept all once : List V) → AreOthers values gone kept → all ≡ kept ++ come
      → ((v : V) → Contains once v ↔ Contains all v) → (v : V)
      → Contains once v ↔ ((Contains values v × ¬ (Contains gone v)) ⊎ Contains come v)
  exchanged_lists values gone come kept all once are e same v = (
    λ c. elim (contains_either kept come v (subst (λ l. Contains l v) e ((same v).0 c))) [
      | inl k ↦ inl ((are v).0 k)
      | inr k ↦ inr k
    ],
    λ p. (same v).1 (subst (λ l. Contains l v) (sym e) (elim p [
      | inl k ↦ contains_left kept come v ((are v).1 k)
      | inr k ↦ contains_right kept come v k
    ])),
  )

  -- ---- a search in an ascending list
  module _ (S : V → V → Ordering) (total : IsTotalOrder S) (exact : IsAntisymmetric S) where
    sorted : (xs : List V) → IsTrue (rises S xs) → IsSortedBy (λ a b. is_lt (S a b)) xs
    sorted xs h j d z l = ap is_lt (turned S total (slice_index_or xs j d) (slice_index_or xs (j + 1) d) Less
        (far S total xs h j (j + 1) d (omega arith) (omega arith)))

    pub searched : (xs : List V) (x : V) → IsTrue (rises S xs) → (r : Result ℕ ℕ) → IsSearchInRange r (length xs)
        → IsBinarySearchResult (λ y. S y x) xs r → IsTrue (is_ok r) ↔ Contains xs x
    searched xs x up (Ok i) bound found = (λ h. (i, bound, exact _ _ (found x)), λ c. refl)
    searched xs x up (Err i) bound found = (
      λ h. absurd (false≢true h),
      λ (k, l, is).
          let cut = found (searchable_from_sorted total (λ (y : V). y) xs x (sorted xs up)) in
          let same : S (slice_index_or xs k x) x ≡ Equal =
          subst (λ y. S y x ≡ Equal) (sym is) (tied_itself total x) in
          elim (cases_lt k i) [
            | inl b ↦ let l' = cut.0 k x (omega arith) b in cc
            | inr b ↦ let g = cut.1 k x b l in cc
          ],
    )

    pub found_among : (xs : List V) (x : V) → IsTrue (rises S xs) → (r : Result ℕ ℕ) → IsSearchInRange r (length xs)
        → IsBinarySearchResult (λ y. S y x) xs r → (b : Bool) → b ≡ is_ok r → IsTrue b ↔ Contains xs x
    found_among xs x up r bound position b same =
        let f = searched xs x up r bound position in (λ h. f.0 (sym same ∙ h), λ c. same ∙ f.1 c)

-- ---- what keys have once values have gone and come

pub stays_by : {V A : Type 0} (S : V → V → Ordering) (Before : V → Type 0) (gone come : List A) (pair : V → A)
    (values out new r : List V) → Lists (λ v. v) S Before values → Lists (λ v. v) S (λ v. Contains gone (pair v)) out
    → Lists (λ v. v) S (λ v. Contains come (pair v)) new
    → ((v : V) → Contains r v ↔ ((Contains values v × ¬ (Contains out v)) ⊎ Contains new v)) → (v : V)
    → Contains r v ↔ Stays (Before v) gone come (pair v)
stays_by S Before gone come pair values out new r b g n is v = (
  λ c. elim ((is v).0 c) [
    | inl h ↦ inl (b.sound v h.0, λ w. h.1 (g.complete v w))
    | inr h ↦ inr (n.sound v h)
  ],
  λ s. (is v).1 (elim s [
    | inl h ↦ inl (b.complete v h.0, λ w. h.1 (g.sound v w))
    | inr h ↦ inr (n.complete v h)
  ]),
)

module _ {K : Type 0} where
  chosen_here : (front : List K) (key k : K) (Values A B : Type 0) → k ≡ key → (Values ↔ A)
      → Values ↔ IsChosen (Contains (front ++ key ∷ []) k) A B
  chosen_here front key k Values A B e is =
      let c : Contains (front ++ key ∷ []) k
      = contains_right front (key ∷ []) k (contains_from_in (key ∷ []) k (inl e)) in (
        λ h. inl (c, is.0 h),
        λ h. elim h [ inl p ↦ is.1 p.1 | inr p ↦ absurd (p.0 c) ],
      )

  chosen_else : (front : List K) (key k : K) (H A B : Type 0) → ¬ (k ≡ key) → (H ↔ IsChosen (Contains front k) A B)
      → H ↔ IsChosen (Contains (front ++ key ∷ []) k) A B
  chosen_else front key k H A B other is =
      let less : Contains (front ++ key ∷ []) k → Contains front k
      = λ c. elim (contains_either front (key ∷ []) k c) [
        | inl d ↦ d
        | inr d ↦ elim (in_from_contains (key ∷ []) k d) [ inl e ↦ absurd (other e) | inr none ↦ absurd none ]
      ] in (
        λ h. elim (is.0 h) [
          | inl p ↦ inl (contains_left front (key ∷ []) k p.0, p.1)
          | inr p ↦ inr (λ c. p.0 (less c), p.1)
        ],
        λ h. is.1 (elim h [
          | inl p ↦ inl (less p.0, p.1)
          | inr p ↦ inr (λ c. p.0 (contains_left front (key ∷ []) k c), p.1)
        ]),
      )

module _ {K : Type 0} (R : K → K → Ordering) (total : IsTotalOrder R) (exact : IsAntisymmetric R) where
  pub in_or_out : (keys : List K) (k : K) → Contains keys k ⊎ (¬ (Contains keys k))
  in_or_out [] k = inr (λ c. in_from_contains [] k c)
  in_or_out (x ∷ keys) k =
      elim (eq_by_cmp R k x) as (λ b. eq_by_cmp R k x ≡ b → Contains (x ∷ keys) k ⊎ (¬ (Contains (x ∷ keys) k))) [
        | true ↦ λ t. inl (contains_from_in (x ∷ keys) k (inl (exact k x ((Equal-is _).0 t))))
        | false ↦ λ t. elim (in_or_out keys k) [
          | inl c ↦ inl (contains_from_in (x ∷ keys) k (inr (in_from_contains keys k c)))
          | inr out ↦ inr (λ c. elim (in_from_contains (x ∷ keys) k c) [
            | inl e ↦ false≢true (sym t ∙ subst (λ y. eq_by_cmp R k y ≡ true) e (ap is_eq (tied_itself total k)))
            | inr i ↦ out (contains_from_in keys k i)
          ])
        ]
      ] refl

module _ {K V : Type 0} (R : K → K → Ordering) (total : IsTotalOrder R) (exact : IsAntisymmetric R) where
  pub up_none : (held next : Held K V) (gone come : List (K × V)) → next ≡ held → IsExchangedAt R [] held gone come next
  up_none held next gone come e k v = (
    λ h. inr (λ c. in_from_contains [] k c, subst (λ (it : Held K V). Has R it k v) e h),
    λ h. elim h [
      | inl p ↦ absurd (in_from_contains [] k p.0)
      | inr p ↦ subst (λ (it : Held K V). Has R it k v) (sym e) p.1
    ],
  )

  pub up_more : (front : List K) (key : K) (values : List V) (held next after : Held K V) (gone come : List (K × V))
      → IsExchangedAt R front held gone come next → after.0 ≡ next.0
      → ((k : K) → find R k after.1 ≡ cond (eq_by_cmp R k key) (Some values) (find R k next.1))
      → ((v : V) → Contains values v ↔ Stays (Has R held key v) gone come (key, v))
      → IsExchangedAt R (front ++ key ∷ []) held gone come after
  up_more front key values held next after gone come upto base lists exactly k v =
      let A : Type 0 = Stays (Has R held k v) gone come (k, v) in
      let B : Type 0 = Has R held k v in
      let C : Type 0 = IsChosen (Contains (front ++ key ∷ []) k) A B in
      subst (λ (o : Option (List V)). IsAmong o v (Contains after.0 (k, v)) ↔ C) (sym (lists k))
      (subst (λ (ps : List (K × V)). IsAmong (cond (eq_by_cmp R k key) (Some values) (find R k next.1)) v
      (Contains ps (k, v)) ↔ C) (sym base)
      (elim (eq_by_cmp R k key) as (λ b. eq_by_cmp R k key ≡ b
      → IsAmong (cond b (Some values) (find R k next.1)) v (Contains next.0 (k, v)) ↔ C) [
        | true ↦ λ t. let e : k ≡ key = exact k key ((Equal-is _).0 t) in
            chosen_here front key k (Contains values v) A B e
            (subst (λ n. Contains values v ↔ Stays (Has R held n v) gone come (n, v)) (sym e) (exactly v))
        | false ↦ λ t. chosen_else front key k (Has R next k v) A B
            (λ e. false≢true (sym t ∙ subst (λ y. eq_by_cmp R k y ≡ true) e (ap is_eq (tied_itself total k))))
            (upto k v)
      ] refl))

  -- values that stay as they are leave all as it is
  pub up_same : (S : V → V → Ordering) (front : List K) (key : K) (values at : List V) (held next : Held K V)
      (gone come : List (K × V))
      → IsExchangedAt R front held gone come next → values ≡ at → Lists (λ v. v) S (λ v. Has R held key v) at
      → ((v : V) → Contains values v ↔ Stays (Has R held key v) gone come (key, v))
      → IsExchangedAt R (front ++ key ∷ []) held gone come next
  up_same S front key values at held next gone come upto same lists exactly k v =
      let all : List K = front ++ key ∷ [] in
      let A : Type 0 = Stays (Has R held k v) gone come (k, v) in
      let B : Type 0 = Has R held k v in
      let stays : Has R held key v → Stays (Has R held key v) gone come (key, v)
      = λ h. (exactly v).0 (subst (λ l. Contains l v) (sym same) (lists.complete v h)) in
      let has : Stays (Has R held key v) gone come (key, v) → Has R held key v
      = λ s. lists.sound v (subst (λ l. Contains l v) same ((exactly v).1 s)) in
      let last : Contains all k → ¬ (Contains front k) → k ≡ key
      = λ c out. elim (contains_either front (key ∷ []) k c) [
        | inl i ↦ absurd (out i)
        | inr i ↦ elim (in_from_contains (key ∷ []) k i) [ inl e ↦ e | inr none ↦ absurd none ]
      ] in (
        λ h. elim ((upto k v).0 h) [
          | inl p ↦ inl (contains_left front (key ∷ []) k p.0, p.1)
          | inr p ↦ elim (in_or_out R total exact all k) [
            | inl c ↦ let e : k ≡ key = last c p.0 in
                inl (c, subst (λ n. Has R held n v → Stays (Has R held n v) gone come (n, v)) (sym e) stays p.1)
            | inr out ↦ inr (out, p.1)
          ]
        ],
        λ h. (upto k v).1 (elim h [
          | inl p ↦ elim (in_or_out R total exact front k) [
            | inl c ↦ inl (c, p.1)
            | inr out ↦ let e : k ≡ key = last p.0 out in
                inr (out, subst (λ n. Stays (Has R held n v) gone come (n, v) → Has R held n v) (sym e) has p.1)
          ]
          | inr p ↦ inr (λ c. p.0 (contains_left front (key ∷ []) k c), p.1)
        ]),
      )

  pub exchanged_all : (keys : List K) (held new : Held K V) (gone come out more : List (K × V))
      → IsExchangedAt R keys held out more new → ((p : K × V) → Contains out p ↔ Contains gone p)
      → ((p : K × V) → Contains more p ↔ Contains come p) → ((p : K × V) → Contains gone p → Contains keys p.0)
      → ((p : K × V) → Contains come p → Contains keys p.0) → (k : K) (v : V)
      → Has R new k v ↔ Stays (Has R held k v) gone come (k, v)
  exchanged_all keys held new gone come out more upto gs cs ks ls k v = (
    λ h. elim ((upto k v).0 h) [
      | inl p ↦ elim p.1 [ inl q ↦ inl (q.0, λ c. q.1 ((gs (k, v)).1 c)) | inr c ↦ inr ((cs (k, v)).0 c) ]
      | inr p ↦ inl (p.1, λ c. p.0 (ks (k, v) c))
    ],
    λ s. (upto k v).1 (elim (in_or_out R total exact keys k) [
      | inl here ↦ inl (
        here,
        elim s [
          | inl q ↦ inl (q.0, λ c. q.1 ((gs (k, v)).0 c))
          | inr c ↦ inr ((cs (k, v)).1 c)
        ],
      )
      | inr away ↦ inr (away, elim s [ inl q ↦ q.0 | inr c ↦ absurd (away (ls (k, v) c)) ])
    ]),
  )

-- ---- links after a change

-- what is linked after a change, where at other keys all is the same
pub link_after : (H P Q G C In : Type 0) → (H ↔ P) → (G ↔ (P × In)) → (C ↔ (Q × In)) → (In ⊎ (¬ In)) → ((¬ In) → P → Q)
    → ((¬ In) → Q → P) → ((H × (¬ G)) ⊎ C) ↔ Q
link_after H P Q G C In h g c either to back = (
  λ s. elim s [
    | inl p ↦ elim either [ inl i ↦ absurd (p.1 (g.1 (h.0 p.0, i))) | inr o ↦ to o (h.0 p.0) ]
    | inr x ↦ (c.0 x).0
  ],
  λ q. elim either [
    | inl i ↦ inr (c.1 (q, i))
    | inr o ↦ inl (h.1 (back o q), λ x. o (g.0 x).1)
  ],
)

pub chained : (A B C : Type 0) → (A ↔ B) → (B ↔ C) → A ↔ C
chained A B C f g = (λ a. g.0 (f.0 a), λ c. f.1 (g.1 c))

-- ---- with lists more

-- what holds by what is found in the lists holds of what finds the same
pub same_held : {K V : Type 0} (R : K → K → Ordering) (keys : List K) (held mid new : Held K V)
    (gone come : List (K × V)) → IsExchangedAt R keys held gone come mid → new.0 ≡ mid.0
    → ((k : K) → find R k new.1 ≡ find R k mid.1) → IsExchangedAt R keys held gone come new
same_held {K} {V} R keys held mid new gone come upto base lists k v =
    let C : Type 0 = IsChosen (Contains keys k) (Stays (Has R held k v) gone come (k, v)) (Has R held k v) in
    subst (λ (o : Option (List V)). IsAmong o v (Contains new.0 (k, v)) ↔ C) (sym (lists k))
    (subst (λ (ps : List (K × V)). IsAmong (find R k mid.1) v (Contains ps (k, v)) ↔ C) (sym base) (upto k v))

module _ {K V : Type 0} (R : K → K → Ordering) where
  -- a list in order alone ascends
  pub ascend_one : (S : V → V → Ordering) (key : K) (values : List V) → IsTrue (rises S values)
      → Ascend R S ((key, values) ∷ [])
  ascend_one S key values up k other e =
      elim (eq_by_cmp R k key) as (λ b. cond b (Some values) None ≡ Some other → IsTrue (rises S other)) [
        | true ↦ λ h. let same : values ≡ other = cc in subst (λ l. IsTrue (rises S l)) same up
        | false ↦ λ h. cc
      ] e

  pub added : IsTotalOrder R → (old h : List (K × List V)) (key : K) (values : List V)
      → ((p : K × List V) → In p old → R p.0 key ≡ Less) → (k : K)
      → find R k ((old ++ (key, values) ∷ []) ++ h) ≡ cond (eq_by_cmp R k key) (Some values) (find R k (old ++ h))
  added total [] h key values above k = refl
  added total (p ∷ old) h key values above k =
      ap (cond (eq_by_cmp R k p.0) (Some p.1)) (added total old h key values (λ q i. above q (inr i)) k)
      ∙ elim (eq_by_cmp R k p.0) as (λ c. eq_by_cmp R k p.0 ≡ c
      → cond c (Some p.1) (cond (eq_by_cmp R k key) (Some values) (find R k (old ++ h)))
      ≡ cond (eq_by_cmp R k key) (Some values) (cond c (Some p.1) (find R k (old ++ h)))) [
        | true ↦ λ t. rw (ap is_eq (total.congr k p.0 key ((Equal-is _).0 t) ∙ above p (inl refl))) refl
        | false ↦ λ t. refl
      ] refl

pub none_added : {A : Type 0} (xs more : List A) → more ≡ [] → xs ≡ xs ++ more
none_added [] more e = sym e
none_added (x ∷ xs) more e = ap (λ l. x ∷ l) (none_added xs more e)
