-- Pairs by two orders, and their parts.
use Rattle.std.proofs.Common.{◌≡◌, Bool, ◌&&◌, List, [], ◌∷◌, length, map, refl, ap, Ordering}
use Rattle.std.specs.declared.cmp.Ordering.TheVariants.{Less, Equal, Greater}
use Rattle.std.specs.Ordering.{is_eq, ordering_then}
use Rattle.std.specs.FinMap.{IsAntisymmetric}
use Rattle.std.specs.List.{zip}
use Rattle.layered_maps.specs.Lists.{pair_cmp}

then_equal : (r s : Ordering) → ordering_then r s ≡ Equal → (r ≡ Equal) × (s ≡ Equal)
then_equal Less s e = cc
then_equal Equal s e = (refl, e)
then_equal Greater s e = cc

pub both_tie : (a b : Bool) (r s : Ordering) → a ≡ is_eq r → b ≡ is_eq s → (a && b) ≡ is_eq (ordering_then r s)
both_tie a b Less s e f = rw e refl
both_tie a b Equal s e f = rw e f
both_tie a b Greater s e f = rw e refl

module _ {A B : Type 0} where
  pub zip_parts : (ps : List (A × B)) → zip (map (λ p. p.0) ps) (map (λ p. p.1) ps) ≡ ps
  zip_parts [] = refl
  zip_parts (p ∷ ps) = ap (λ l. p ∷ l) (zip_parts ps)

  pub even_parts : (ps : List (A × B)) → length (map (λ p. p.1) ps) ≡ length (map (λ p. p.0) ps)
  even_parts [] = refl
  even_parts (p ∷ ps) = let e = even_parts ps in cc

  -- pairs of which both parts tie are equal
  pub pairs_exact : (R : A → A → Ordering) (S : B → B → Ordering) → IsAntisymmetric R → IsAntisymmetric S
      → IsAntisymmetric (pair_cmp R S)
  pairs_exact R S r s p q e =
      let t = then_equal _ _ e in
      let f = r p.0 q.0 t.0 in
      let h = s p.1 q.1 t.1 in
      λ i. (f i, h i)
