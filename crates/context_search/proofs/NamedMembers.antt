-- What a search by name finds in a list that ascends by name.
use Rattle.std.proofs.Common.{◌≡◌, ℕ, ◌<◌, List, length, map, inl, inr, sym, ap, subst, ◌∙◌, arith, Some, IsTrue}
use Rattle.std.proofs.Common.{Contains, Ordering, Ok, Err, slice_index_or}
use Rattle.std.specs.FinMap.{get, IsAntisymmetric}
use Rattle.std.specs.declared.cmp.Ordering.TheVariants.{Less, Equal, Greater}
use Rattle.std.specs.Cmp.{IsTotalOrder}
use Rattle.std.specs.List.{AllWithin}
use Rattle.std.specs.List.Sorted.{IsBinarySearchResult}
use Rattle.std.proofs.lemmas.Bool.{cases_lt}
use Rattle.std.proofs.lemmas.Cmp.{tied_itself}
use Rattle.ordered_lists.specs.Orders.{rises}
use Rattle.ordered_lists.proofs.SortedMaps.{map_of, get_member, search_found, search_below, search_behind}

module _ {A N : Type 0} (name : A → N) (R : N → N → Ordering) (total : IsTotalOrder R) where
  -- members of one name are one
  pub one_named : (xs : List A) → IsTrue (rises R (map name xs)) → (x y : A) → Contains xs x → Contains xs y
      → name x ≡ name y → x ≡ y
  one_named xs up x y i j e =
      let f : Some x ≡ Some y = sym (get_member name R total x xs up i) ∙ ap (get (map_of name R total xs)) e
      ∙ get_member name R total y xs up j in
      cc

  no_tie : (n : N) (x : A) (r : Ordering) → R (name x) n ≡ r → name x ≡ n → r ≡ Equal
  no_tie n x r h e = sym h ∙ subst (λ m. R m n ≡ Equal) (sym e) (tied_itself total n)

  missed_at : (n : N) (xs : List A) (i : ℕ) → AllWithin (λ x. R (name x) n ≡ Less) xs 0 i
      → AllWithin (λ x. R (name x) n ≡ Greater) xs i (length xs) → (j : ℕ) (x : A) → j < length xs
      → slice_index_or xs j x ≡ x → name x ≡ n → ⊥
  missed_at n xs i below behind j x within at e = elim (cases_lt j i) [
    | inl l ↦ let h : R (name x) n ≡ Less = subst (λ y. R (name y) n ≡ Less) at (below j x (omega arith) l) in
        let f = no_tie n x Less h e in cc
    | inr l ↦ let h : R (name x) n ≡ Greater = subst (λ y. R (name y) n ≡ Greater) at (behind j x l within) in
        let f = no_tie n x Greater h e in cc
  ]

  -- a search that finds nothing: nothing has the name
  pub missed : (n : N) (xs : List A) (i : ℕ) → IsTrue (rises R (map name xs))
      → IsBinarySearchResult (λ x. R (name x) n) xs (Err i) → (x : A) → Contains xs x → name x ≡ n → ⊥
  missed n xs i up h x has = missed_at n xs i (search_below name R total n xs (Err i) up h)
      (search_behind name R total n xs (Err i) up h) has.0 x has.1 has.2

  -- what stands at the place that a search finds has the name
  pub found : IsAntisymmetric R → (n : N) (xs : List A) (i : ℕ) (x : A) → x ≡ slice_index_or xs i x
      → IsBinarySearchResult (λ x. R (name x) n) xs (Ok i) → name x ≡ n
  found same n xs i x e h = ap name e ∙ search_found name R total same n xs (Ok i) h x
