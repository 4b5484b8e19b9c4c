-- Names of one way that ascend do so by position and direction.
use Rattle.std.proofs.Common.{
  ◌≡◌,
  List,
  [],
  ◌∷◌,
  map,
  inl,
  inr,
  refl,
  sym,
  ap,
  ◌∙◌,
  subst,
  IsTrue,
  Ordering,
}
use Rattle.std.specs.declared.cmp.Ordering.TheVariants.{Equal}
use Rattle.std.specs.Ordering.{is_lt, ordering_then, nat_cmp}
use Rattle.std.specs.Cmp.{IsTotalOrder}
use Rattle.std.proofs.lemmas.Bool.{and_parts, and_from}
use Rattle.std.proofs.lemmas.Cmp.{tied_itself}
use Rattle.road_base.specs.declared.ids.WayId.{WayId}
use Rattle.road_model.specs.declared.lists.PieceName.{PieceName}
use Rattle.ordered_lists.specs.Orders.{rises, rises_from}
use Rattle.road_model.specs.Orders.{way_cmp, name_cmp, dir_cmp}
use Rattle.road_model.specs.Format.{place_cmp}
use Rattle.ordered_lists.proofs.ListMembers.{In}

then_after : (o r : Ordering) → o ≡ Equal → ordering_then o r ≡ r
then_after o r e = ap (λ x. ordering_then x r) e

tied : IsTotalOrder way_cmp → (a b : WayId) → a ≡ b → way_cmp a b ≡ Equal
tied total a b e = subst (λ c. way_cmp a c ≡ Equal) e (tied_itself total a)

same_order : IsTotalOrder way_cmp → (a b : PieceName) → a.way ≡ b.way → name_cmp a b ≡ place_cmp a b
same_order total a b e =
    then_after (way_cmp a.way b.way) (ordering_then (nat_cmp a.index b.index) (dir_cmp a.dir b.dir))
    (tied total a.way b.way e)

module _ {A : Type 0} (name : A → PieceName) (total : IsTotalOrder way_cmp) (w : WayId) where
  places_rise_from : (x : A) (xs : List A) → (name x).way ≡ w → ((y : A) → In y xs → (name y).way ≡ w)
      → IsTrue (rises_from name_cmp (name x) (map name xs)) → IsTrue (rises_from place_cmp (name x) (map name xs))
  places_rise_from x [] e all h = refl
  places_rise_from x (y ∷ ys) e all h =
      let p = and_parts _ _ h in
      let f = all y (inl refl) in
      and_from _ _ (ap is_lt (sym (same_order total (name x) (name y) (e ∙ sym f))) ∙ p.0)
      (places_rise_from y ys f (λ z i. all z (inr i)) p.1)

  -- names of one way that ascend do so by position and direction
  pub places_rise : (xs : List A) → ((y : A) → In y xs → (name y).way ≡ w) → IsTrue (rises name_cmp (map name xs))
      → IsTrue (rises place_cmp (map name xs))
  places_rise [] all h = refl
  places_rise (x ∷ xs) all h = places_rise_from x xs (all x (inl refl)) (λ z i. all z (inr i)) h
