-- Costs that are added up one behind another.
use Rattle.std.proofs.Common.{◌≡◌, ℕ, ◌+◌, ◌<◌, ◌≤◌, List, [], ◌∷◌, length, Some, None, get_or}
use Rattle.std.proofs.Common.{refl, sym, ap, ◌∙◌, arith, drop}
use Rattle.std.proofs.lemmas.List.{drop_more, at_drop_all, length-drop}
use Rattle.road_base.specs.declared.ids.Step.{Step}
use Rattle.road_base.specs.Objects.{Objects}
use Rattle.road_model.specs.declared.lists.Place.{Place}
use Rattle.least_cost.specs.Costs.{plus, cost_of, step_cost_of, cost_between}
use Rattle.least_cost.specs.PlaceCosts.{first_cost, places_cost}
use Rattle.least_cost.proofs.LawCosts.{plus_assoc}

module _ (M : Objects) (drive : List Step) (i sum : ℕ) (d : Step) (within : i < length drive)
    (so_far : cost_of M drive ≡ plus (Some sum) (cost_of M (drop i drive))) where
  next : cost_of M (drop i drive) ≡ plus (step_cost_of M (get_or drive i d)) (cost_of M (drop (i + 1) drive))
  next = ap (cost_of M) (drop_more drive i d within)

  -- with the cost of the next step
  pub drive_more : (n : ℕ) → step_cost_of M (get_or drive i d) ≡ Some n
      → cost_of M drive ≡ plus (Some (sum + n)) (cost_of M (drop (i + 1) drive))
  drive_more n e = so_far ∙ ap (λ v. plus (Some sum) v) next
      ∙ sym (plus_assoc (Some sum) (step_cost_of M (get_or drive i d)) (cost_of M (drop (i + 1) drive)))
      ∙ ap (λ v. plus (plus (Some sum) v) (cost_of M (drop (i + 1) drive))) e

  -- a step that has no cost
  pub drive_none : step_cost_of M (get_or drive i d) ≡ None → cost_of M drive ≡ None
  drive_none e = so_far ∙ ap (λ v. plus (Some sum) v) (next
      ∙ ap (λ v. plus v (cost_of M (drop (i + 1) drive))) e)

pub drive_all : (M : Objects) (drive : List Step) (i sum : ℕ) → length drive ≤ i
    → cost_of M drive ≡ plus (Some sum) (cost_of M (drop i drive)) → cost_of M drive ≡ Some sum
drive_all M drive i sum h e = e ∙ ap (λ v. plus (Some sum) v) (at_drop_all (cost_of M) drive i h)
    ∙ ap Some (omega arith)

-- from the place at i on: the cost to the next place, and from there on
pub places_more : (places : List Place) (i : ℕ) (x y : Place) → i + 1 < length places → x ≡ get_or places i x
    → y ≡ get_or places (i + 1) y
    → places_cost (drop i places) ≡ cost_between x.location y.location + places_cost (drop (i + 1) places)
places_more places i x y h x_is y_is =
    let a = drop_more places i x (omega arith) in
    let b = drop_more places (i + 1) y h in
    ap places_cost a ∙ ap (λ z. first_cost z (drop (i + 1) places) + places_cost (drop (i + 1) places)) (sym x_is)
    ∙ ap (λ l. first_cost x l + places_cost (drop (i + 1) places)) b
    ∙ ap (λ z. cost_between x.location z.location + places_cost (drop (i + 1) places)) (sym y_is)

one_left : (places : List Place) → length places ≤ 1 → places_cost places ≡ 0
one_left [] h = refl
one_left (x ∷ []) h = refl
one_left (x ∷ (y ∷ ys)) h = absurd (omega arith)

-- the last place leads nowhere
pub places_end : (places : List Place) (i : ℕ) → length places ≤ i + 1 → places_cost (drop i places) ≡ 0
places_end places i h = one_left (drop i places) (omega (arith, length-drop i places))
