-- The places of visits that lead to one.
use Rattle.std.proofs.Common.{◌≡◌, inl, inr, ℕ, ◌<◌, ◌≤◌, List, [], ◌∷◌, ◌++◌, length}
use Rattle.std.proofs.Common.{Some, slice_get, Contains, refl, sym, ◌∙◌, ap, subst, reverse}
use Rattle.std.proofs.Common.{append_assoc}
use Rattle.std.proofs.lemmas.List.{reverse-append}
use Rattle.std.proofs.lemmas.Option.{slice_get_within}
use Rattle.ordered_lists.proofs.ListMembers.{contains_more, contains_one}
use Rattle.road_base.specs.declared.ids.Step.{Step}
use Rattle.context_search.specs.declared.marks.Origin.TheVariants.{Begins, Follows}
use Rattle.context_search.specs.Routes.{spelled}
use Rattle.least_cost.specs.declared.visiting.CostVisit.{CostVisit}
use Rattle.least_cost.specs.Trails.{IsTrail, One, More, steps_at, steps_by}

reversed : (old new : List ℕ) (at : ℕ) → new ≡ old ++ at ∷ [] → reverse new ≡ at ∷ reverse old
reversed old new at e = ap reverse e ∙ reverse-append old (at ∷ [])

module _ (visits : List CostVisit) where
  pub trail_more : (first : ℕ) (ks : List ℕ) (at before place : ℕ) (v : CostVisit) (old new : List ℕ)
      → slice_get visits at ≡ Some v → v.origin ≡ Follows before → new ≡ old ++ at ∷ []
      → ((first : ℕ) (ks : List ℕ) → IsTrail visits first (ks ++ at ∷ []) at
      → IsTrail visits first (ks ++ at ∷ reverse old) place)
      → IsTrail visits first (ks ++ before ∷ []) before → IsTrail visits first (ks ++ before ∷ reverse new) place
  trail_more first ks at before place v old new e o is inv trail =
      let h = inv first (ks ++ before ∷ []) (More (ks ++ before ∷ []) before at v trail e o refl) in
      let same : (ks ++ before ∷ []) ++ at ∷ reverse old ≡ ks ++ before ∷ reverse new
      = append_assoc ks (before ∷ []) (at ∷ reverse old)
      ∙ ap (λ l. ks ++ before ∷ l) (sym (reversed old new at is)) in
      subst (λ l. IsTrail visits first l place) same h

  pub trail_ends : (first at place : ℕ) (v : CostVisit) (old new : List ℕ) → slice_get visits at ≡ Some v
      → v.origin ≡ Begins first → new ≡ old ++ at ∷ []
      → ((first : ℕ) (ks : List ℕ) → IsTrail visits first (ks ++ at ∷ []) at
      → IsTrail visits first (ks ++ at ∷ reverse old) place)
      → IsTrail visits first (reverse new) place
  trail_ends first at place v old new e o is inv = subst (λ l. IsTrail visits first l place)
      (sym (reversed old new at is)) (inv first [] (One at v e o refl))

  pub trail_within : (first : ℕ) {ks : List ℕ} {k : ℕ} → IsTrail visits first ks k → (i : ℕ) → Contains ks i
      → i < length visits
  trail_within first (One k v e o is) i has =
      let same = contains_one k i (subst (λ l. Contains l i) is has) in
      subst (λ j. j < length visits) (sym same) (slice_get_within visits k v e)
  trail_within first (More js j k v trail e o is) i has =
      elim (contains_more js k i (subst (λ l. Contains l i) is has)) [
        | inl before ↦ trail_within first trail i before
        | inr same ↦ subst (λ j. j < length visits) (sym same) (slice_get_within visits k v e)
      ]

pub steps_there : (visits : List CostVisit) (place : ℕ) (v : CostVisit) → slice_get visits place ≡ Some v
    → steps_at visits place ≡ spelled v.spot.piece.now
steps_there visits place v e = ap steps_by e
