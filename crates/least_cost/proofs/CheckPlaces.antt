-- Steps of a part of a piece's places.
use Rattle.std.proofs.Common.{◌≡◌, ℕ, zero, suc, ◌+◌, ◌-◌, ◌≤◌, List, [], ◌∷◌, Option, Some}
use Rattle.std.proofs.Common.{slice_get, take, drop, refl, sym, ap, ◌∙◌, subst, arith}
use Rattle.road_base.specs.declared.ids.NodeId.{NodeId}
use Rattle.road_model.specs.declared.lists.Place.{Place}
use Rattle.context_search.specs.Ends.{BeginsBy, StopsBy}
use Rattle.least_cost.specs.Costs.{plus}
use Rattle.least_cost.specs.PlaceCosts.{places_cost}
use Rattle.least_cost.specs.Certified.{AtMost}
use Rattle.least_cost.specs.Shown.{HoldsAtEnds, HoldsAtStarts}

pub drop_at : {X : Type 0} (i : ℕ) (xs : List X) (k : ℕ) → slice_get (drop i xs) k ≡ slice_get xs (i + k)
drop_at zero xs k = ap (slice_get xs) (omega arith)
drop_at (suc i) [] k = refl
drop_at (suc i) (x ∷ xs) k =
    let e : suc (i + k) ≡ suc i + k = omega arith in drop_at i xs k ∙ ap (slice_get (x ∷ xs)) e

module _ (places : List Place) (b : NodeId) (i j : ℕ) where
  stops_left : i ≤ j → StopsBy places j b → StopsBy (drop i places) (j - i) b
  stops_left h s =
      let e : i + (j - i + 1) ≡ j + 1 = omega arith in
      record { place = s.place; at = drop_at i places (j - i + 1) ∙ ap (slice_get places) e ∙ s.at; is = s.is }

  stops_whole : StopsBy (drop i places) j b → StopsBy places (i + j) b
  stops_whole s =
      let e : i + j + 1 ≡ i + (j + 1) = omega arith in
      record { place = s.place; at = ap (slice_get places) e ∙ sym (drop_at i places (j + 1)) ∙ s.at; is = s.is }

-- what has to hold from a step on that begins at the node
abbrev pub HoldsFrom : NodeId → Option ℕ → Option ℕ → List Place → Type 0
HoldsFrom b C number places = AtMost number (Some (places_cost places)) × HoldsAtEnds b C (Some 0) places

counted_from : (C : Option ℕ) (places : List Place) (m n : ℕ) → m ≡ n
    → plus (Some 0) (Some (places_cost (take m places))) ≡ Some (places_cost (take n places))
counted_from C places m n e = ap Some (let z : 0 + places_cost (take m places) ≡ places_cost (take m places)
    = omega arith in z ∙ ap (λ k. places_cost (take k places)) e)

module _ (a b : NodeId) (C number : Option ℕ) (places : List Place) where
  pub starts_hold : ((i : ℕ) → BeginsBy places i a → HoldsFrom b C number (drop i places))
      → HoldsAtStarts a b C number places
  starts_hold h = record {
    leaves = λ i begins. (h i begins).0;
    within = λ i j begins stops l. subst (λ v. AtMost C v)
        (counted_from C (drop i places) (j - i + 2) (j + 2 - i) (omega arith))
        ((h i begins).1 (j - i) (stops_left places b i j l stops));
  }

  pub starts_from : HoldsAtStarts a b C number places → (i : ℕ) → BeginsBy places i a
      → HoldsFrom b C number (drop i places)
  starts_from h i begins = (
    h.leaves i begins,
    λ j stops. subst (λ v. AtMost C v) (sym (counted_from C (drop i places) (j + 2) (i + j + 2 - i) (omega arith)))
        (h.within i (i + j) begins (stops_whole places b i j stops) (omega arith)),
  )
