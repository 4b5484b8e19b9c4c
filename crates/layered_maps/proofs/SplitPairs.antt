-- Sorted lists of pairs, split at an entry: what is found in them, and where an entry is put.
use Rattle.std.proofs.Common.{◌≡◌, true, false, IsTrue, List, [], ◌∷◌, ◌++◌, Some, None, inl, inr, refl, sym, ap, ◌∙◌}
use Rattle.std.proofs.Common.{subst, Ordering, Bool, T}
use Rattle.std.specs.declared.cmp.Ordering.TheVariants.{Less, Equal, Greater}
use Rattle.std.specs.Ordering.{is_eq}
use Rattle.std.specs.Cmp.{IsTotalOrder}
use Rattle.std.specs.FinMap.{find, put}
use Rattle.std.specs.FinMap.Entries.{below_all, is_sorted-put}
use Rattle.std.proofs.lemmas.Bool.{and_parts}
use Rattle.ordered_lists.proofs.ListMembers.{In}
use Rattle.ordered_lists.proofs.Comparisons.{less, turned}
use Rattle.layered_maps.specs.Layers.{Rise}

told : (b : Bool) → T b → IsTrue b
told true t = refl
told false t = absurd t

-- what is put into a list in order leaves it in order
pub put_rises : {K V : Type 0} (R : K → K → Ordering) → IsTotalOrder R → (k : K) (v : V) (l : List (K × V)) → Rise R l
    → Rise R (put R k v l)
put_rises R total k v l h = told _ (is_sorted-put R total k v l (subst T (sym h) tt))

module _ {K V : Type 0} (R : K → K → Ordering) where
  below_each : (k : K) (l : List (K × V)) → IsTrue (below_all R k l) → (y : K × V) → In y l → R k y.0 ≡ Less
  below_each k [] h y i = absurd i
  below_each k (x ∷ l) h y (inl e) = subst (λ (z : K × V). R k z.0 ≡ Less) (sym e) (less _ (and_parts _ _ h).0)
  below_each k (x ∷ l) h y (inr i) = below_each k l (and_parts _ _ h).1 y i

  below_right : (k : K) (l m : List (K × V)) → IsTrue (below_all R k (l ++ m)) → IsTrue (below_all R k m)
  below_right k [] m h = h
  below_right k (x ∷ l) m h = below_right k l m (and_parts _ _ h).1

  pub right_rises : (l m : List (K × V)) → Rise R (l ++ m) → Rise R m
  right_rises [] m h = h
  right_rises (x ∷ l) m h = right_rises l m (and_parts _ _ h).1

  -- what stands above the first of a list in order
  pub above_first : (x : K × V) (m : List (K × V)) → Rise R (x ∷ m) → (y : K × V) → In y m → R x.0 y.0 ≡ Less
  above_first x m h = below_each x.0 m (and_parts _ _ h).0

  -- what stands before an entry
  before_entry : (l : List (K × V)) (x : K × V) (m : List (K × V)) → Rise R (l ++ x ∷ m) → (y : K × V) → In y l
      → R y.0 x.0 ≡ Less
  before_entry [] x m h y i = absurd i
  before_entry (z ∷ l) x m h y (inl e) =
      subst (λ (w : K × V). R w.0 x.0 ≡ Less) (sym e)
      (less _ (and_parts _ _ (below_right z.0 l (x ∷ m) (and_parts _ _ h).0)).0)
  before_entry (z ∷ l) x m h y (inr i) = before_entry l x m (and_parts _ _ h).1 y i

  pub find_behind : (q : K) (l m : List (K × V)) → ((y : K × V) → In y l → is_eq (R q y.0) ≡ false)
      → find R q (l ++ m) ≡ find R q m
  find_behind q [] m h = refl
  find_behind q (x ∷ l) m h = rw (h x (inl refl)) (find_behind q l m (λ y i. h y (inr i)))

  pub find_none : (q : K) (l : List (K × V)) → ((y : K × V) → In y l → is_eq (R q y.0) ≡ false) → find R q l ≡ None
  find_none q [] h = refl
  find_none q (x ∷ l) h = rw (h x (inl refl)) (find_none q l (λ y i. h y (inr i)))

  pub put_behind : (k : K) (v : V) (l m : List (K × V)) → ((y : K × V) → In y l → R k y.0 ≡ Greater)
      → put R k v (l ++ m) ≡ l ++ put R k v m
  put_behind k v [] m h = refl
  put_behind k v (x ∷ l) m h = rw (h x (inl refl)) (ap (λ w. x ∷ w) (put_behind k v l m (λ y i. h y (inr i))))

  module _ (total : IsTotalOrder R) where
    pub find_here : (q : K) (l : List (K × V)) (x : K × V) (m : List (K × V)) → Rise R (l ++ x ∷ m) → R q x.0 ≡ Equal
        → find R q (l ++ x ∷ m) ≡ Some x.1
    find_here q l x m h e =
        find_behind q l (x ∷ m) (λ y i. ap is_eq (total.congr q x.0 y.0 e
        ∙ turned R total y.0 x.0 Less (before_entry l x m h y i)))
        ∙ rw e refl

    pub put_here : (k : K) (v : V) (l : List (K × V)) (x : K × V) (m : List (K × V)) → Rise R (l ++ x ∷ m)
        → R k x.0 ≡ Equal → put R k v (l ++ x ∷ m) ≡ l ++ (x.0, v) ∷ m
    put_here k v l x m h e =
        put_behind k v l (x ∷ m) (λ y i. total.congr k x.0 y.0 e
        ∙ turned R total y.0 x.0 Less (before_entry l x m h y i))
        ∙ rw e refl
