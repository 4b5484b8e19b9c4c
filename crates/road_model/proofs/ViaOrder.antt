-- The order in which via members are passed has the members that are listed.
use Rattle.std.proofs.Common.{◌≡◌, ℕ, List, [], ◌∷◌, inl, inr, refl, subst, Bool, true, false, cond, ◌&&◌}
use Rattle.std.proofs.Common.{reverse}
use Rattle.std.specs.Prelude.{sum_by}
use Rattle.std.proofs.lemmas.List.{reverse-append}
use Rattle.std.proofs.lemmas.List.Sorted.{IsPermutation-reverse, sum_by-IsPermutation}
use Rattle.road_base.specs.declared.ids.Key.{Key}
use Rattle.road_base.specs.declared.objects.Relation.{Relation}
use Rattle.road_base.specs.Objects.{Objects}
use Rattle.road_model.specs.Rules.{Rules}
use Rattle.road_model.specs.Restrictions.{vias, via_order, is_backward}
use Rattle.ordered_lists.proofs.ListMembers.{In, push_cases}

pub in_reversed : (xs : List Key) (k : Key) → In k (reverse xs) → In k xs
in_reversed [] k i = i
in_reversed (x ∷ xs) k i = elim (push_cases (reverse xs) x k (subst (In k) (reverse-append (x ∷ []) xs) i)) [
  | inl j ↦ inr (in_reversed xs k j)
  | inr e ↦ inl e
]

in_either : (b : Bool) (xs : List Key) (k : Key) → In k (cond b (reverse xs) xs) → In k xs
in_either true xs k i = in_reversed xs k i
in_either false xs k i = i

sum_either : (b : Bool) (f : Key → ℕ) (xs : List Key) → sum_by f (cond b (reverse xs) xs) ≡ sum_by f xs
sum_either true f xs = sum_by-IsPermutation f xs (reverse xs) (IsPermutation-reverse xs)
sum_either false f xs = refl

module _ (M : Objects) (P : Rules) (r : Relation) where
  pub in_order : (k : Key) → In k (via_order M P r) → In k (vias r)
  in_order k i = in_either (P.reverses && is_backward M r) (vias r) k i

  pub sum_in_order : (f : Key → ℕ) → sum_by f (via_order M P r) ≡ sum_by f (vias r)
  sum_in_order f = sum_either (P.reverses && is_backward M r) f (vias r)
