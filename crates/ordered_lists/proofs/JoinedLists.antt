-- Lists of all that is asked for, one behind the other.
use Rattle.std.proofs.Common.{
  ◌≡◌,
  ℕ,
  ◌+◌,
  ◌<◌,
  Bool,
  true,
  false,
  cond,
  List,
  [],
  ◌∷◌,
  ◌++◌,
  length,
  map,
  take,
  get_or,
  ◌⊎◌,
  inl,
  inr,
  refl,
  sym,
  subst,
  arith,
  IsTrue,
  Contains,
  Ordering,
  ap,
}
use Rattle.std.specs.Ordering.{is_lt}
use Rattle.std.proofs.lemmas.Bool.{and_parts, and_from, false≢true}
use Rattle.std.proofs.lemmas.List.{take_more}
use Rattle.std.proofs.lemmas.List.Elements.{Contains-append_left, Contains-append_right, Contains-append_cases}
use Rattle.ordered_lists.specs.Orders.{rises, rises_from, Lists}
use Rattle.ordered_lists.proofs.ListMembers.{contains_later, contains_none, contains_one, contains_map, contains_from_map}

module _ {A : Type 0} where
  module _ {N : Type 0} (name : A → N) (R : N → N → Ordering) where
    joined_on : (x : A) (xs ys : List A) → IsTrue (rises_from R (name x) (map name xs))
        → IsTrue (rises R (map name ys))
        → ((a b : A) → Contains (x ∷ xs) a → Contains ys b → IsTrue (is_lt (R (name a) (name b))))
        → IsTrue (rises_from R (name x) (map name (xs ++ ys)))
    joined_on x [] [] up next below = refl
    joined_on x [] (y ∷ ys) up next below = and_from _ _ (below x y (0, omega arith, refl) (0, omega arith, refl)) next
    joined_on x (z ∷ zs) ys up next below =
        let parts = and_parts _ _ up in
        and_from _ _ parts.0
        (joined_on z zs ys parts.1 next (λ a b has of. below a b (contains_later x a (z ∷ zs) has) of))

    joined_rise : (xs ys : List A) → IsTrue (rises R (map name xs)) → IsTrue (rises R (map name ys))
        → ((a b : A) → Contains xs a → Contains ys b → IsTrue (is_lt (R (name a) (name b))))
        → IsTrue (rises R (map name (xs ++ ys)))
    joined_rise [] ys up next below = next
    joined_rise (x ∷ xs) ys up next below = joined_on x xs ys up next below

    -- two lists, of which the first stands below the second
    pub lists_joined : (Is Next More : A → Type 0) (xs ys : List A) → Lists name R Is xs → Lists name R Next ys
        → ((a b : A) → Is a → Next b → IsTrue (is_lt (R (name a) (name b)))) → ((z : A) → Is z → More z)
        → ((z : A) → Next z → More z) → ((z : A) → More z → Is z ⊎ Next z) → Lists name R More (xs ++ ys)
    lists_joined Is Next More xs ys these those below keeps adds from = record {
      ascending = joined_rise xs ys these.ascending those.ascending
          (λ a b has of. below a b (these.sound a has) (those.sound b of));
      sound = λ z has. elim (Contains-append_cases xs ys z has)
          [ inl here ↦ keeps z (these.sound z here) | inr there ↦ adds z (those.sound z there) ];
      complete = λ z is. elim (from z is) [
        | inl here ↦ Contains-append_left xs ys z (these.complete z here)
        | inr there ↦ Contains-append_right xs ys
            z (those.complete z there)
      ];
    }

    pub lists_extended : (Is Next More : A → Type 0) (xs ys zs : List A) → zs ≡ xs ++ ys → Lists name R Is xs
        → Lists name R Next ys → ((a b : A) → Is a → Next b → IsTrue (is_lt (R (name a) (name b))))
        → ((z : A) → Is z → More z) → ((z : A) → Next z → More z) → ((z : A) → More z → Is z ⊎ Next z)
        → Lists name R More zs
    lists_extended Is Next More xs ys zs is these those below keeps adds from = subst (Lists name R More) (sym is)
        (lists_joined Is Next More xs ys these those below keeps adds from)

    lists_one : (y : A) → Lists name R (λ z. z ≡ y) (y ∷ [])
    lists_one y = record {
      ascending = refl;
      sound = λ z has. contains_one y z has;
      complete = λ z same. (0, omega arith, sym same);
    }

    -- the same list, of the same things
    pub lists_same : (Is Other : A → Type 0) (xs : List A) → Lists name R Is xs → ((z : A) → Is z → Other z)
        → ((z : A) → Other z → Is z) → Lists name R Other xs
    lists_same Is Other xs lists to from = record {
      ascending = lists.ascending;
      sound = λ z has. to z (lists.sound z has);
      complete = λ z is. lists.complete z (from z is);
    }

    -- one more that stands above all
    pub lists_pushed : (Is More : A → Type 0) (xs ys : List A) (y : A) → ys ≡ xs ++ y ∷ [] → Lists name R Is xs
        → ((z : A) → Is z → IsTrue (is_lt (R (name z) (name y)))) → ((z : A) → Is z → More z) → More y
        → ((z : A) → More z → (z ≡ y) ⊎ Is z) → Lists name R More ys
    lists_pushed Is More xs ys y is lists above keeps new from =
        lists_extended Is (λ z. z ≡ y) More xs (y ∷ []) ys is lists (lists_one y)
        (λ a b has same. subst (λ c. IsTrue (is_lt (R (name a) (name c)))) (sym same) (above a has)) keeps
        (λ z same. subst More (sym same) new)
        (λ z has. elim (from z has) [ inl same ↦ inr same | inr before ↦ inl before ])

    -- one more, where it is wanted
    pub lists_added : (Is More : A → Type 0) (xs : List A) (wanted : Bool) (y : A) → Lists name R Is xs
        → ((z : A) → Is z → IsTrue (is_lt (R (name z) (name y)))) → ((z : A) → Is z → More z)
        → (IsTrue wanted → More y) → ((z : A) → More z → ((z ≡ y) × IsTrue wanted) ⊎ Is z)
        → Lists name R More (cond wanted (xs ++ y ∷ []) xs)
    lists_added Is More xs true y lists above keeps new from =
        lists_pushed Is More xs (xs ++ y ∷ []) y refl lists above keeps (new refl)
        (λ z is. elim (from z is) [ inl here ↦ inl here.0 | inr there ↦ inr there ])
    lists_added Is More xs false y lists above keeps new from = lists_same Is More xs lists keeps
        (λ z is. elim (from z is) [ inl here ↦ absurd (false≢true here.1) | inr there ↦ there ])

    pub lists_none : (Is : A → Type 0) → ((z : A) → Is z → ⊥) → Lists name R Is []
    lists_none Is none = record {
      ascending = refl;
      sound = λ z has. absurd (contains_none z has);
      complete = λ z is. absurd (none z is);
    }

  -- one more was looked at
  pub one_more : (xs : List A) (i : ℕ) (d y : A) → i < length xs → Contains (take (i + 1) xs) y
      → (y ≡ get_or xs i d) ⊎ Contains (take i xs) y
  one_more xs i d y within
      has = elim (Contains-append_cases (take i xs) (get_or xs i d ∷ []) y
      (subst (λ (l : List A). Contains l y) (take_more xs i d within) has)) [
        | inl before ↦ inr before
        | inr last ↦ inl (contains_one (get_or xs i d) y last)
      ]

  pub has_last : (xs : List A) (i : ℕ) (d y : A) → i < length xs → y ≡ get_or xs i d → Contains (take (i + 1) xs) y
  has_last xs i d y within same = subst (λ (l : List A). Contains l y) (sym (take_more xs i d within))
      (Contains-append_right (take i xs) (get_or xs i d ∷ []) y (0, omega arith, sym same))

  pub has_before : (xs : List A) (i : ℕ) (d y : A) → i < length xs → Contains (take i xs) y
      → Contains (take (i + 1) xs) y
  has_before xs i d y within has = subst (λ (l : List A). Contains l y) (sym (take_more xs i d within))
      (Contains-append_left (take i xs) (get_or xs i d ∷ []) y has)

-- ---- names alone

module _ {A N : Type 0} (name : A → N) where
  map_same : (xs : List N) → map (λ n. n) xs ≡ xs
  map_same [] = refl
  map_same (x ∷ xs) = ap (λ l. x ∷ l) (map_same xs)

  -- the names of what is listed
  pub lists_names : (R : N → N → Ordering) (Is : A → Type 0) (IsName : N → Type 0) (xs : List A) (names : List N)
      → names ≡ map name xs → Lists name R Is xs → ((z : A) → Is z → IsName (name z))
      → ((n : N) → IsName n → (z : A) × (Is z × (n ≡ name z))) → Lists (λ n. n) R IsName names
  lists_names R Is IsName xs names are lists to from = subst (Lists (λ n. n) R IsName) (sym are) (record {
    ascending = subst (λ l. IsTrue (rises R l)) (sym (map_same (map name xs))) lists.ascending;
    sound = λ n has. let z = contains_from_map name xs n has in subst IsName (sym z.2) (to z.0 (lists.sound z.0 z.1));
    complete = λ n is. let z = from n is in subst (Contains (map name xs)) (sym (z.1).1)
        (contains_map name xs z.0 (lists.complete z.0 (z.1).0));
  })
