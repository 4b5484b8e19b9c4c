-- Lists in which each element is below the next.
use Rattle.std.proofs.Common.{◌≡◌, ℕ, IsTrue, take, drop, List, [], ◌∷◌, ◌++◌, Ordering, inl, inr, refl, sym, ap, subst}
use Rattle.std.specs.declared.cmp.Ordering.TheVariants.{Less}
use Rattle.std.specs.Ordering.{is_lt}
use Rattle.std.specs.Cmp.{IsTotalOrder}
use Rattle.std.specs.Cmp.Derive.{both_true}
use Rattle.std.proofs.lemmas.Bool.{and_parts}
use Rattle.std.proofs.lemmas.List.{take-append-drop}
use Rattle.ordered_lists.specs.Orders.{rises, rises_from}
use Rattle.ordered_lists.proofs.ListMembers.{In}
use Rattle.ordered_lists.proofs.Comparisons.{less}

module _ {N : Type 0} (R : N → N → Ordering) where
  -- a front of a list that rises
  front_from : (n : N) (xs ys : List N) → IsTrue (rises_from R n (xs ++ ys)) → IsTrue (rises_from R n xs)
  front_from n [] ys up = refl
  front_from n (x ∷ xs) ys up = let parts = and_parts _ _ up in both_true parts.0 (front_from x xs ys parts.1)

  front_rises : (xs ys : List N) → IsTrue (rises R (xs ++ ys)) → IsTrue (rises R xs)
  front_rises [] ys up = refl
  front_rises (x ∷ xs) ys up = front_from x xs ys up

  pub take_rises : (n : ℕ) (xs : List N) → IsTrue (rises R xs) → IsTrue (rises R (take n xs))
  take_rises n xs up =
      front_rises (take n xs) (drop n xs) (subst (λ l. IsTrue (rises R l)) (sym (take-append-drop n xs)) up)

  -- one that is above all comes behind them
  more_from : (n : N) (xs : List N) (y : N)
      → IsTrue (rises_from R n xs) → R n y ≡ Less → ((x : N) → In x xs → R x y ≡ Less)
      → IsTrue (rises_from R n (xs ++ y ∷ []))
  more_from n [] y up below each = both_true (ap is_lt below) refl
  more_from n (x ∷ xs) y up below each =
      let parts = and_parts _ _ up in
      both_true parts.0 (more_from x xs y parts.1 (each x (inl refl)) (λ z i. each z (inr i)))

  pub one_more_rises : (xs : List N) (y : N) → IsTrue (rises R xs) → ((x : N) → In x xs → R x y ≡ Less)
      → IsTrue (rises R (xs ++ y ∷ []))
  one_more_rises [] y up each = refl
  one_more_rises (x ∷ xs) y up each = more_from x xs y up (each x (inl refl)) (λ z i. each z (inr i))

  module _ (total : IsTotalOrder R) where
    -- the last one is above all before it
    last_from : (n : N) (xs : List N) (y : N) → IsTrue (rises_from R n (xs ++ y ∷ [])) → R n y ≡ Less
    last_from n [] y up = less (R n y) (and_parts _ _ up).0
    last_from n (x ∷ xs) y up =
        let parts = and_parts _ _ up in total.trans n x y (less (R n x) parts.0) (last_from x xs y parts.1)

    pub below_last : (xs : List N) (y : N) → IsTrue (rises R (xs ++ y ∷ [])) → (x : N) → In x xs → R x y ≡ Less
    below_last [] y up x i = absurd i
    below_last (z ∷ xs) y up x (inl e) = subst (λ v. R v y ≡ Less) (sym e) (last_from z xs y up)
    below_last (z ∷ []) y up x (inr i) = absurd i
    below_last (z ∷ u ∷ xs) y up x (inr i) = below_last (u ∷ xs) y (and_parts _ _ up).1 x i
