-- Finitely many things with names of their own stand in one strictly ascending list.
use Rattle.std.proofs.Common.{◌≡◌, List, [], ◌∷◌, map, ◌⊎◌, inl, inr, refl, ap, ◌∙◌, IsTrue, Ordering}
use Rattle.std.specs.declared.cmp.Ordering.TheVariants.{Less, Equal, Greater}
use Rattle.std.specs.Ordering.{is_lt, ordering_reverse}
use Rattle.std.specs.Cmp.{IsTotalOrder}
use Rattle.std.specs.FinMap.{IsAntisymmetric}
use Rattle.std.proofs.lemmas.Bool.{and_parts, and_from}
use Rattle.ordered_lists.specs.Orders.{rises, rises_from, Lists}
use Rattle.ordered_lists.proofs.ListMembers.{In, in_from_contains, contains_from_in}
use Rattle.ordered_lists.proofs.Enumerated.{Finite}
use Rattle.ordered_lists.proofs.AscendingLists.{rest_rises}

module _ {A N : Type 0} (name : A → N) (R : N → N → Ordering) (total : IsTotalOrder R) (exact : IsAntisymmetric R) where
  -- x in its place among the ascending ys
  record PutIn (x : A) (ys : List A) : Type 0 where
    list : List A
    ascending : IsTrue (rises R (map name list))
    above : (n : N) → IsTrue (is_lt (R n (name x))) → IsTrue (rises_from R n (map name ys)) →
        IsTrue (rises_from R n (map name list))
    sound : (z : A) → In z list → (z ≡ x) ⊎ In z ys
    complete : (z : A) → (z ≡ x) ⊎ In z ys → In z list

  put_by : (x y : A) (ys : List A) → IsTrue (rises R (map name (y ∷ ys))) → (name x ≡ name y → x ≡ y) →
      (r : Ordering) → R (name x) (name y) ≡ r → PutIn x ys → PutIn x (y ∷ ys)
  put_by x y ys h same Less e p = record {
    list = x ∷ y ∷ ys;
    ascending = and_from _ _ (ap is_lt e) h;
    above = λ n l k. and_from _ _ l (and_from _ _ (ap is_lt e) h);
    sound = λ z i. i;
    complete = λ z i. i;
  }
  put_by x y ys h same Equal e p =
      let f : x ≡ y = same (exact _ _ e) in record {
        list = y ∷ ys;
        ascending = h;
        above = λ n l k. k;
        sound = λ z i. inr i;
        complete = λ z i. elim i [ inl g ↦ inl (g ∙ f) | inr j ↦ j ];
      }
  put_by x y ys h same Greater e p =
      let l : R (name y) (name x) ≡ Less = total.antisymm (name y) (name x) ∙ ap ordering_reverse e in record {
        list = y ∷ p.list;
        ascending = p.above (name y) (ap is_lt l) h;
        above = λ n m k. let q = and_parts _ _ k in and_from _ _ q.0 (p.above (name y) (ap is_lt l) q.1);
        sound = λ z i. elim i [
          | inl g ↦ inr (inl g)
          | inr j ↦ elim (p.sound z j) [ inl g ↦ inl g | inr k ↦ inr (inr k) ]
        ];
        complete = λ z i. elim i [
          | inl g ↦ inr (p.complete z (inl g))
          | inr j ↦ elim j [ inl g ↦ inl g | inr k ↦ inr (p.complete z (inr k)) ]
        ];
      }

  put_in : (x : A) (ys : List A) → IsTrue (rises R (map name ys)) → ((y : A) → In y ys → name x ≡ name y → x ≡ y) →
      PutIn x ys
  put_in x [] h same = record {
    list = x ∷ [];
    ascending = refl;
    above = λ n l k. and_from _ _ l refl;
    sound = λ z i. i;
    complete = λ z i. i;
  }
  put_in x (y ∷ ys) h same = put_by x y ys h (same y (inl refl)) (R (name x) (name y)) refl
      (put_in x ys (rest_rises R (name y) (map name ys) h) (λ z i. same z (inr i)))

  -- the members of xs, ascending
  record Sorted (xs : List A) : Type 0 where
    list : List A
    ascending : IsTrue (rises R (map name list))
    sound : (z : A) → In z list → In z xs
    complete : (z : A) → In z xs → In z list

  sorted : (xs : List A) → ((x y : A) → In x xs → In y xs → name x ≡ name y → x ≡ y) → Sorted xs
  sorted [] same = record { list = []; ascending = refl; sound = λ z i. i; complete = λ z i. i }
  sorted (x ∷ xs) same =
      let s = sorted xs (λ a b i j. same a b (inr i) (inr j)) in
      let p = put_in x s.list s.ascending (λ y i. same x y (inl refl) (inr (s.sound y i))) in
      record {
        list = p.list;
        ascending = p.ascending;
        sound = λ z i. elim (p.sound z i) [ inl e ↦ inl e | inr j ↦ inr (s.sound z j) ];
        complete = λ z i. p.complete z (elim i [ inl e ↦ inl e | inr j ↦ inr (s.complete z j) ]);
      }

  -- the list of those of which the fact holds, where their names tell them apart
  pub listed : {Is : A → Type 0} → Finite Is → ((x y : A) → Is x → Is y → name x ≡ name y → x ≡ y) →
      (xs : List A) × Lists name R Is xs
  listed f same =
      let s = sorted f.list (λ x y i j. same x y (f.sound x i) (f.sound y j)) in (
        s.list,
        record {
          ascending = s.ascending;
          sound = λ x c. f.sound x (s.sound x (in_from_contains s.list x c));
          complete = λ x is. contains_from_in s.list x (s.complete x (f.complete x is));
        },
      )
