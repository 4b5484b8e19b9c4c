-- Lists whose names ascend: parts of them, and that their members determine them.
use Rattle.std.proofs.Common.{◌≡◌, ℕ, zero, suc, Bool, true, false, cond, List, [], ◌∷◌, ◌++◌, length, map, take, inl}
use Rattle.std.proofs.Common.{inr, refl, sym, ◌∙◌, subst, IsTrue, Ordering}
use Rattle.std.specs.Ordering.{is_lt}
use Rattle.std.specs.Cmp.{IsTotalOrder}
use Rattle.std.specs.List.{filter}
use Rattle.std.proofs.lemmas.Bool.{and_parts, and_from}
use Rattle.ordered_lists.proofs.ListMembers.{In, in_end, in_take, push_cases, in_from_contains, contains_from_in}
use Rattle.ordered_lists.proofs.FilteredLists.{from_filter}
use Rattle.ordered_lists.proofs.Comparisons.{over, not_itself}
use Rattle.ordered_lists.specs.Orders.{rises, rises_from, Lists}

pub rest_rises : {N : Type 0} (R : N → N → Ordering) (n : N) (ns : List N) → IsTrue (rises_from R n ns)
    → IsTrue (rises R ns)
rest_rises R n [] up = refl
rest_rises R n (m ∷ ns) up = (and_parts _ _ up).1

-- what ascends behind one that is above n ascends from n
pub behind_next : {N : Type 0} (R : N → N → Ordering) (total : IsTotalOrder R) (n m : N) (ns : List N)
    → IsTrue (rises_from R n (m ∷ ns)) → IsTrue (rises_from R n ns)
behind_next R total n m [] up = refl
behind_next R total n m (k ∷ ns) up =
    let p = and_parts _ _ up in
    let q = and_parts _ _ p.1 in
    and_from _ _ (over R total n m k p.0 q.0) q.1

module _ {A N : Type 0} (name : A → N) (R : N → N → Ordering) (total : IsTotalOrder R) where
  -- x is below y
  abbrev pub Below : A → A → Type 0
  Below x y = IsTrue (is_lt (R (name x) (name y)))

  -- each is below all that follow
  abbrev pub Climbs : List A → Type 0
  Climbs [] = Unit {0}
  Climbs (x ∷ xs) = ((y : A) → In y xs → Below x y) × Climbs xs

  -- what ascends from a name stands above it
  pub above : (n : N) (xs : List A) → IsTrue (rises_from R n (map name xs)) → (x : A) → In x xs
      → IsTrue (is_lt (R n (name x)))
  above n [] h x i = absurd i
  above n (y ∷ xs) h x (inl e) = subst (λ z. IsTrue (is_lt (R n (name z)))) (sym e) (and_parts _ _ h).0
  above n (y ∷ xs) h x (inr i) =
      let p = and_parts _ _ h in over R total n (name y) (name x) p.0 (above (name y) xs p.1 x i)

  pub climbs : (xs : List A) → IsTrue (rises R (map name xs)) → Climbs xs
  climbs [] h = tt
  climbs (x ∷ xs) h = (above (name x) xs h, climbs xs (rest_rises R (name x) (map name xs) h))

  rises_after : (x : A) (xs : List A) → Climbs (x ∷ xs) → IsTrue (rises_from R (name x) (map name xs))
  rises_after x [] c = refl
  rises_after x (y ∷ xs) c = and_from _ _ (c.0 y (inl refl)) (rises_after y xs c.1)

  pub rises_again : (xs : List A) → Climbs xs → IsTrue (rises R (map name xs))
  rises_again [] c = refl
  rises_again (x ∷ xs) c = rises_after x xs c

  -- a list that ascends does so with one more behind that is above all
  pub climbs_push : (xs : List A) (y : A) → Climbs xs → ((x : A) → In x xs → Below x y) → Climbs (xs ++ y ∷ [])
  climbs_push [] y c up = (λ z i. absurd i, tt)
  climbs_push (x ∷ xs) y c up = (
    λ z i. elim (push_cases xs y z i)
        [ inl j ↦ c.0 z j | inr e ↦ subst (λ v. Below x v) (sym e) (up x (inl refl)) ],
    climbs_push xs y c.1
        (λ z i. up z (inr i)),
  )

  pub below_end : (xs : List A) (y : A) → Climbs (xs ++ y ∷ []) → (x : A) → In x xs → Below x y
  below_end [] y c x i = absurd i
  below_end (z ∷ xs) y c x (inl e) = subst (λ v. Below v y) (sym e) (c.0 y (in_end xs y []))
  below_end (z ∷ xs) y c x (inr i) = below_end xs y c.1 x i

  pub climbs_take : (n : ℕ) (xs : List A) → Climbs xs → Climbs (take n xs)
  climbs_take zero xs c = tt
  climbs_take (suc n) [] c = tt
  climbs_take (suc n) (x ∷ xs) c = (λ y i. c.0 y (in_take n xs y i), climbs_take n xs c.1)

  -- an ascending list of which all members have one name has one
  one_by_climbing : (xs : List A) → Climbs xs → (x : A) → In x xs → ((y : A) → In y xs → name y ≡ name x)
      → length xs ≡ 1
  one_by_climbing [] c x i all = absurd i
  one_by_climbing (a ∷ []) c x i all = refl
  one_by_climbing (a ∷ b ∷ xs) c x i all =
      let e = all a (inl refl) ∙ sym (all b (inr (inl refl))) in
      absurd (not_itself R total (name b) (subst (λ n. IsTrue (is_lt (R n (name b)))) e (c.0 b (inl refl))))

  pub one_name_alone : (xs : List A) → IsTrue (rises R (map name xs)) → (x : A) → In x xs
      → ((y : A) → In y xs → name y ≡ name x) → length xs ≡ 1
  one_name_alone xs h = one_by_climbing xs (climbs xs h)

  heads : (x y : A) (xs ys : List A) → Climbs (x ∷ xs) → Climbs (y ∷ ys) → In x (y ∷ ys) → In y (x ∷ xs) → x ≡ y
  heads x y xs ys g h (inl e) j = e
  heads x y xs ys g h (inr i) (inl e) = sym e
  heads x y xs ys g h (inr i) (inr j) = absurd
      (not_itself R total (name x) (over R total (name x) (name y) (name x) (g.0 y j) (h.0 x i)))

  in_tail : (x y : A) (xs ys : List A) → Climbs (x ∷ xs) → x ≡ y → (z : A) → In z xs → In z (y ∷ ys) → In z ys
  in_tail x y xs ys g e z i (inl f) = absurd
      (not_itself R total (name x) (subst (λ k. Below x k) (f ∙ sym e) (g.0 z i)))
  in_tail x y xs ys g e z i (inr j) = j

  one_list : (xs ys : List A) → Climbs xs → Climbs ys → ((x : A) → In x xs → In x ys) → ((x : A) → In x ys → In x xs)
      → xs ≡ ys
  one_list [] [] g h to from = refl
  one_list [] (y ∷ ys) g h to from = absurd (from y (inl refl))
  one_list (x ∷ xs) [] g h to from = absurd (to x (inl refl))
  one_list (x ∷ xs) (y ∷ ys) g h to from =
      let e = heads x y xs ys g h (to x (inl refl)) (from y (inl refl)) in
      let t = one_list xs ys g.1 h.1 (λ z i. in_tail x y xs ys g e z i (to z (inr i)))
      (λ z i. in_tail y x ys xs h (sym e) z i (from z (inr i))) in
      cc (e, t)

  -- there is at most one list of what is asked for
  pub lists_unique : (Is : A → Type 0) (xs ys : List A) → Lists name R Is xs → Lists name R Is ys → xs ≡ ys
  lists_unique Is xs ys l m = one_list xs ys (climbs xs l.ascending) (climbs ys m.ascending)
      (λ x i. in_from_contains ys x (m.complete x (l.sound x (contains_from_in xs x i))))
      (λ x i. in_from_contains xs x (l.complete x (m.sound x (contains_from_in ys x i))))

-- ---- what a filter keeps still ascends

module _ {A N : Type 0} (name : A → N) (R : N → N → Ordering) (total : IsTotalOrder R) (p : A → Bool) where
  climbs_kept : (b : Bool) (x : A) (ys : List A) → ((y : A) → In y ys → Below name R total x y) → Climbs name R total ys
      → Climbs name R total (cond b (x ∷ ys) ys)
  climbs_kept true x ys up c = (up, c)
  climbs_kept false x ys up c = c

  pub climbs_filter : (xs : List A) → Climbs name R total xs → Climbs name R total (filter p xs)
  climbs_filter [] c = tt
  climbs_filter (x ∷ xs) c = climbs_kept (p x) x (filter p xs) (λ y i. c.0 y (from_filter p xs y i).0)
      (climbs_filter xs c.1)

  pub rises_kept : (xs : List A) → IsTrue (rises R (map name xs)) → IsTrue (rises R (map name (filter p xs)))
  rises_kept xs up = rises_again name R total (filter p xs) (climbs_filter xs (climbs name R total xs up))
