-- Two lists of pairs in order, put into one another from their heads on.
use Rattle.std.proofs.Common.{◌≡◌, ◌<◌, ◌-◌, true, IsTrue, List, [], ◌∷◌, ◌++◌, length, map, take, drop, get_or}
use Rattle.std.proofs.Common.{inl, inr, refl, sym, ap, ◌∙◌, subst, arith, append-nil, Ordering}
use Rattle.std.specs.Bool.{◌==◌}
use Rattle.std.specs.declared.cmp.Ordering.TheVariants.{Less, Equal, Greater}
use Rattle.std.specs.Ordering.{is_lt}
use Rattle.std.specs.Cmp.{IsTotalOrder}
use Rattle.std.specs.FinMap.{put}
use Rattle.std.specs.FinMap.Entries.{below_all, by_order}
use Rattle.std.proofs.lemmas.Bool.{and_parts, and_from, eqb-true}
use Rattle.std.proofs.lemmas.List.{append_assoc, take_rest}
use Rattle.ordered_lists.proofs.ListMembers.{In}
use Rattle.ordered_lists.proofs.Comparisons.{less, turned}
use Rattle.layered_maps.specs.Layers.{Rise, put_all}
use Rattle.layered_maps.proofs.SplitPairs.{above_first}
use Rattle.layered_maps.proofs.LayerPairs.{put_all_rises}

module _ {K V : Type 0} (R : K → K → Ordering) where
  -- a key below all is put before them
  put_first : (k : K) (v : V) (l : List (K × V)) → IsTrue (below_all R k l) → put R k v l ≡ (k, v) ∷ l
  put_first k v [] h = refl
  put_first k v (x ∷ l) h = rw (less (R k x.0) (and_parts _ _ h).0) refl

  -- a key below all stays below them once another above it is put among them
  below_put : (q k : K) (v : V) (l : List (K × V)) → R q k ≡ Less → IsTrue (below_all R q l)
      → IsTrue (below_all R q (put R k v l))
  below_put q k v [] e h = and_from _ _ (ap is_lt e) refl
  below_put q k v (x ∷ l) e h =
      elim (R k x.0) as (λ r. IsTrue (below_all R q (by_order r ((k, v) ∷ x ∷ l) ((x.0, v) ∷ l) (x ∷ put R k v l)))) [
        | Less ↦ and_from _ _ (ap is_lt e) h
        | Equal ↦ h
        | Greater ↦ let p = and_parts _ _ h in and_from _ _ p.0 (below_put q k v l e p.1)
      ]

  -- a key below all of both lists is below all of them together
  below_put_all : (q : K) (l m : List (K × V)) → IsTrue (below_all R q l) → IsTrue (below_all R q m)
      → IsTrue (below_all R q (put_all R l m))
  below_put_all q [] m h g = g
  below_put_all q (x ∷ l) m h g =
      let p = and_parts _ _ h in
      below_put q x.0 x.1 (put_all R l m) (less _ p.0) (below_put_all q l m p.1 g)

  -- pairs above the first of a list are put behind it
  put_all_behind : (y : K × V) (l m : List (K × V)) → ((x : K × V) → In x l → R x.0 y.0 ≡ Greater)
      → put_all R l (y ∷ m) ≡ y ∷ put_all R l m
  put_all_behind y [] m h = refl
  put_all_behind y (x ∷ l) m h =
      ap (put R x.0 x.1) (put_all_behind y l m (λ z i. h z (inr i))) ∙ rw (h x (inl refl)) refl

  -- a list in order, put into nothing
  pub put_all_nil : (l : List (K × V)) → Rise R l → put_all R l [] ≡ l
  put_all_nil [] h = refl
  put_all_nil (x ∷ l) h =
      let p = and_parts _ _ h in ap (put R x.0 x.1) (put_all_nil l p.1) ∙ put_first x.0 x.1 l p.0

  -- nothing is left of the first list
  pub none_first : {E : Type 0} (f : E → K × V) (l : List E) (m : List (K × V)) → true ≡ (length l == 0)
      → put_all R (map f l) m ≡ map f l ++ m
  none_first f [] m none = refl
  none_first f (x ∷ l) m none = absurd (omega (arith, eqb-true _ 0 (sym none)))

  -- nothing is left of the second list
  pub none_second : {E : Type 0} (f : E → K × V) (l : List (K × V)) (m : List E) → Rise R l → true ≡ (length m == 0)
      → put_all R l (map f m) ≡ l ++ map f m
  none_second f l [] h none = put_all_nil l h ∙ sym (append-nil l)
  none_second f l (x ∷ m) h none = absurd (omega (arith, eqb-true _ 0 (sym none)))

  module _ (total : IsTotalOrder R) where
    -- what two lists in order gave, added to nothing, is in order
    pub merged_rises : {E : Type 0} (f : E → K × V) (old : List E) (l m new : List (K × V)) → old ≡ [] → Rise R m
        → new ≡ map f old ++ put_all R l m → Rise R new
    merged_rises f old l m new none h is =
        subst (Rise R) (sym (is ∙ ap (λ es. map f es ++ put_all R l m) none)) (put_all_rises R total l m h)

    below_less : (q k : K) (l : List (K × V)) → R q k ≡ Less → IsTrue (below_all R k l) → IsTrue (below_all R q l)
    below_less q k [] e h = refl
    below_less q k (x ∷ l) e h =
        let p = and_parts _ _ h in
        and_from _ _ (ap is_lt (total.trans q k x.0 e (less _ p.0))) (below_less q k l e p.1)

    -- the head of the first list is the lowest
    pub lowest_first : (p q : List (K × V)) (x : K × V) (l : List (K × V)) (y : K × V) (m : List (K × V)) → Rise R p
        → Rise R q → p ≡ x ∷ l → q ≡ y ∷ m → R x.0 y.0 ≡ Less → put_all R p q ≡ x ∷ put_all R l q
    lowest_first p q x l y m rise others is are e =
        let h : Rise R (x ∷ l) = subst (Rise R) is rise in
        let g : Rise R (y ∷ m) = subst (Rise R) are others in
        let below : IsTrue (below_all R x.0 q)
        = subst (λ r. IsTrue (below_all R x.0 r)) (sym are)
        (and_from _ _ (ap is_lt e) (below_less x.0 y.0 m e (and_parts _ _ g).0)) in
        ap (λ r. put_all R r q) is
        ∙ put_first x.0 x.1 (put_all R l q) (below_put_all x.0 l q (and_parts _ _ h).0 below)

    -- the heads have the same key
    pub heads_tied : (p q : List (K × V)) (x : K × V) (l : List (K × V)) (y : K × V) (m : List (K × V)) → Rise R p
        → p ≡ x ∷ l → q ≡ y ∷ m → R x.0 y.0 ≡ Equal → put_all R p q ≡ (y.0, x.1) ∷ put_all R l m
    heads_tied p q x l y m rise is are e =
        let h : Rise R (x ∷ l) = subst (Rise R) is rise in
        ap (λ r. put_all R r q) is ∙ ap (put_all R (x ∷ l)) are
        ∙ ap (put R x.0 x.1) (put_all_behind y l m (λ z i. turned R total y.0 z.0 Less
        (sym (total.congr x.0 y.0 z.0 e) ∙ above_first R x l h z i)))
        ∙ rw e refl

    -- the head of the second list is the lowest
    pub lowest_second : (p q : List (K × V)) (x : K × V) (l : List (K × V)) (y : K × V) (m : List (K × V)) → Rise R p
        → p ≡ x ∷ l → q ≡ y ∷ m → R x.0 y.0 ≡ Greater → put_all R p q ≡ y ∷ put_all R p m
    lowest_second p q x l y m rise is are e =
        let h : Rise R (x ∷ l) = subst (Rise R) is rise in
        ap (put_all R p) are
        ∙ put_all_behind y p m (subst (λ r. (z : K × V) → In z r → R z.0 y.0 ≡ Greater) (sym is) (λ z. elim [
          | inl i ↦ subst (λ (w : K × V). R w.0 y.0 ≡ Greater) (sym i) e
          | inr i ↦ turned R total y.0 z.0 Less
              (total.trans y.0 x.0 z.0 (turned R total x.0 y.0 Greater e) (above_first R x l h z i))
        ]))

module _ {E P : Type 0} (f : E → P) where
  -- a list that holds something is its first and the rest
  pub first_and_rest : (l : List E) (x : E) → 0 < length l → x ≡ get_or l 0 x
      → map f l ≡ f x ∷ map f (take (length l - 1) (drop 1 l))
  first_and_rest [] x some is = absurd (omega (arith, some))
  first_and_rest (y ∷ l) x some is = λ i. f (sym is i) ∷ map f (sym (take_rest (y ∷ l) 1) i)

  added : (l : List E) (x : E) (rest : List P) → map f (l ++ x ∷ []) ++ rest ≡ map f l ++ f x ∷ rest
  added [] x rest = refl
  added (y ∷ l) x rest = ap (λ m. f y ∷ m) (added l x rest)

  -- a list to which the first of others was added, with the rest of them
  pub moved : (new old : List E) (x : E) (p : P) (rest whole : List P) → new ≡ old ++ x ∷ [] → f x ≡ p
      → whole ≡ p ∷ rest → map f new ++ rest ≡ map f old ++ whole
  moved new old x p rest whole grown is all =
      ap (λ m. map f m ++ rest) grown ∙ added old x rest ∙ ap (λ q. map f old ++ q ∷ rest) is
      ∙ ap (λ m. map f old ++ m) (sym all)

-- a list to which what is left of both lists was added
pub rests_added : {P : Type 0} (before left right merged whole one both : List P) → before ++ merged ≡ whole
    → merged ≡ left ++ right → one ≡ before ++ left → both ≡ one ++ right → both ≡ whole
rests_added before left right merged whole one both kept last first second =
    second ∙ ap (λ l. l ++ right) first ∙ append_assoc before left right ∙ ap (λ l. before ++ l) (sym last) ∙ kept
