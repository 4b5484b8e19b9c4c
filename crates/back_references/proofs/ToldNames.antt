-- Names that are told from the entries of a list in key order, as those of ways and of relations.
use Rattle.std.proofs.Common.{◌≡◌, IsTrue, List, [], ◌∷◌, map, Option, Some, None, Ordering, inl, inr, refl, sym, ap}
use Rattle.std.proofs.Common.{subst, ◌∙◌}
use Rattle.std.specs.Prelude.{filter_map}
use Rattle.std.specs.List.{cons_option}
use Rattle.std.specs.Ordering.{is_lt}
use Rattle.std.specs.Cmp.{IsTotalOrder}
use Rattle.std.specs.Cmp.Derive.{both_true}
use Rattle.std.proofs.lemmas.Bool.{and_parts}
use Rattle.road_base.specs.declared.ids.Key.{Key}
use Rattle.road_base.specs.declared.event.Event.{Event}
use Rattle.road_base.specs.Objects.{key_cmp}
use Rattle.ordered_lists.specs.Orders.{rises, rises_from}
use Rattle.object_store.specs.Listed.{IsInOrder, key_of}
use Rattle.ordered_lists.proofs.ListMembers.{In}
use Rattle.ordered_lists.proofs.AscendingLists.{rest_rises, behind_next}

-- ---- the members of what a list tells

module _ {A B : Type 0} (told : A → Option B) where
  first_of : (o : Option B) (z : B) (zs : List B) → o ≡ Some z → In z (cons_option o zs)
  first_of None z zs e = cc
  first_of (Some y) z zs e = inl (cc)

  later_of : (o : Option B) (z : B) (zs : List B) → In z zs → In z (cons_option o zs)
  later_of None z zs i = i
  later_of (Some y) z zs i = inr i

  pub in_told : (xs : List A) (x : A) (z : B) → In x xs → told x ≡ Some z → In z (filter_map told xs)
  in_told [] x z i is = absurd i
  in_told (y ∷ xs) x z (inl here) is = first_of (told y) z (filter_map told xs) (ap told (sym here) ∙ is)
  in_told (y ∷ xs) x z (inr i) is = later_of (told y) z (filter_map told xs) (in_told xs x z i is)

  one_told : (x : A) (xs : List A) (z : B) → (In z (filter_map told xs) → (y : A) × In y xs × (told y ≡ Some z))
      → (o : Option B) → told x ≡ o → In z (cons_option o (filter_map told xs))
      → (y : A) × In y (x ∷ xs) × (told y ≡ Some z)
  one_told x xs z rest None is i = let r = rest i in (r.0, inr r.1, r.2)
  one_told x xs z rest (Some y) is (inl e) = (x, inl refl, is ∙ ap Some (sym e))
  one_told x xs z rest (Some y) is (inr i) = let r = rest i in (r.0, inr r.1, r.2)

  pub from_told : (xs : List A) (z : B) → In z (filter_map told xs) → (x : A) × In x xs × (told x ≡ Some z)
  from_told [] z i = absurd i
  from_told (x ∷ xs) z i = one_told x xs z (from_told xs z) (told x) refl i

-- ---- they ascend as the keys do

module _ {N : Type 0} (R : N → N → Ordering) (key : N → Key) (by_key : (a b : N) → key_cmp (key a) (key b) ≡ R a b)
    (told : Event → Option N) (own : (e : Event) (n : N) → told e ≡ Some n → e.key ≡ key n)
    (total : IsTotalOrder key_cmp) where
  rise_next : (m : N) (e : Event) (es : List Event)
      → IsTrue (rises_from key_cmp (key m) (key_of e ∷ map key_of es))
      → IsTrue (rises_from R m (filter_map told es))
      → ((n : N) → IsTrue (rises_from key_cmp (key n) (map key_of es)) → IsTrue (rises_from R n (filter_map told es)))
      → (o : Option N) → told e ≡ o → IsTrue (rises_from R m (cons_option o (filter_map told es)))
  rise_next m e es up rest from None is = rest
  rise_next m e es up rest from (Some n) is =
      let at_name = subst (λ k. IsTrue (rises_from key_cmp (key m) (k ∷ map key_of es))) (own e n is) up in
      let parts = and_parts _ _ at_name in
      both_true (subst (λ o. IsTrue (is_lt o)) (by_key m n) parts.0) (from n parts.1)

  rise_from : (m : N) (es : List Event) → IsTrue (rises_from key_cmp (key m) (map key_of es))
      → IsTrue (rises_from R m (filter_map told es))
  rise_from m [] up = refl
  rise_from m (e ∷ es) up =
      let from = behind_next key_cmp total (key m) e.key (map key_of es) up in
      rise_next m e es up (rise_from m es from) (λ n. rise_from n es) (told e) refl

  pub told_rise : (es : List Event) → IsInOrder es → IsTrue (rises R (filter_map told es))
  told_rise [] up = refl
  told_rise (e ∷ es) up = next (told e) refl (told_rise es (rest_rises key_cmp e.key (map key_of es) up))
    where
      next : (o : Option N) → told e ≡ o → IsTrue (rises R (filter_map told es))
          → IsTrue (rises R (cons_option o (filter_map told es)))
      next None is rest = rest
      next (Some n) is rest =
          rise_from n es (subst (λ k. IsTrue (rises_from key_cmp k (map key_of es))) (own e n is) up)
