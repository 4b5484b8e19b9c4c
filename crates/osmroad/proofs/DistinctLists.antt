-- How long lists of different members are.
use Rattle.std.proofs.Common.{◌≡◌, ◌≢◌, suc, ◌≤◌, ◌⊎◌, List, [], ◌∷◌, length, inl, inr, refl, sym, ap, ◌∙◌, arith}
use Rattle.restrictions.specs.Words.{AreDistinct}
use Rattle.ordered_lists.proofs.ListMembers.{In, contains_from_in, all_at}

module _ {A : Type 0} where
  -- a list without one place of a member
  without : (x : A) (ys : List A) → In x ys
      → (zs : List A) × (length ys ≡ suc (length zs)) × ((z : A) → In z ys → (z ≡ x) ⊎ In z zs)
  without x [] i = absurd i
  without x (y ∷ ys) (inl e) = (ys, refl, λ z i. elim i [ inl f ↦ inl (f ∙ sym e) | inr j ↦ inr j ])
  without x (y ∷ ys) (inr i) =
      let r = without x ys i in (
        y ∷ r.0,
        ap suc r.1,
        λ z j.
            elim j [
              | inl f ↦ inr (inl f)
              | inr k ↦ elim (r.2 z k) [ inl f ↦ inl f | inr l ↦ inr (inr l) ]
            ],
      )

  -- a list of different members is no longer than one that has them all
  pub no_longer : (xs ys : List A) → AreDistinct xs → ((z : A) → In z xs → In z ys) → length xs ≤ length ys
  no_longer [] ys once among = omega arith
  no_longer (x ∷ xs) ys once among =
      let r = without x ys (among x (inl refl)) in
      let rest : (z : A) → In z xs → In z r.0 =
      λ z i.
      elim (r.2 z (among z (inr i))) [
        | inl same ↦ absurd (all_at (λ y. x ≢ y) xs z once.0 (contains_from_in xs z i) (sym same))
        | inr j ↦ j
      ]
      in
      let shorter = no_longer xs r.0 once.1 rest in
      let count = r.1 in
      omega arith
