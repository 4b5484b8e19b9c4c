-- The places of visits that lead to one, and their steps.
use Rattle.std.proofs.Common.{◌≡◌, inl, inr, ℕ, ◌<◌, List, [], ◌∷◌, ◌++◌, length}
use Rattle.std.proofs.Common.{Some, slice_get, Contains, refl, sym, ◌∙◌, ap, subst, reverse}
use Rattle.std.proofs.Common.{append_assoc, Result, OnOk}
use Rattle.std.proofs.lemmas.List.{reverse-append}
use Rattle.std.proofs.lemmas.Option.{slice_get_within}
use Rattle.ordered_lists.proofs.ListMembers.{contains_more, contains_one}
use Rattle.road_base.specs.declared.ids.Step.{Step}
use Rattle.context_search.specs.declared.marks.Origin.TheVariants.{Begins, Follows}
use Rattle.context_search.specs.declared.marks.TreeVisit.{TreeVisit}
use Rattle.context_search.specs.Routes.{IsChain, One, More, steps_at, steps_in, spelled}

reversed : (old new : List ℕ) (at : ℕ) → new ≡ old ++ at ∷ [] → reverse new ≡ at ∷ reverse old
reversed old new at e = ap reverse e ∙ reverse-append old (at ∷ [])

module _ (visits : List TreeVisit) where
  pub chain_more : (first : ℕ) (ks : List ℕ) (at before place : ℕ) (v : TreeVisit) (old new : List ℕ)
      → slice_get visits at ≡ Some v → v.origin ≡ Follows before → new ≡ old ++ at ∷ []
      → ((first : ℕ) (ks : List ℕ) → IsChain visits first (ks ++ at ∷ []) at
      → IsChain visits first (ks ++ at ∷ reverse old) place)
      → IsChain visits first (ks ++ before ∷ []) before → IsChain visits first (ks ++ before ∷ reverse new) place
  chain_more first ks at before place v old new e o is inv chain =
      let h = inv first (ks ++ before ∷ []) (More (ks ++ before ∷ []) before at v chain e o refl) in
      let same : (ks ++ before ∷ []) ++ at ∷ reverse old ≡ ks ++ before ∷ reverse new
      = append_assoc ks (before ∷ []) (at ∷ reverse old)
      ∙ ap (λ l. ks ++ before ∷ l) (sym (reversed old new at is)) in
      subst (λ l. IsChain visits first l place) same h

  pub chain_ends : (first at place : ℕ) (v : TreeVisit) (old new : List ℕ) → slice_get visits at ≡ Some v
      → v.origin ≡ Begins first → new ≡ old ++ at ∷ []
      → ((first : ℕ) (ks : List ℕ) → IsChain visits first (ks ++ at ∷ []) at
      → IsChain visits first (ks ++ at ∷ reverse old) place)
      → IsChain visits first (reverse new) place
  chain_ends first at place v old new e o is inv = subst (λ l. IsChain visits first l place)
      (sym (reversed old new at is)) (inv first [] (One at v e o refl))

  pub chain_within : (first : ℕ) {ks : List ℕ} {k : ℕ} → IsChain visits first ks k → (i : ℕ) → Contains ks i
      → i < length visits
  chain_within first (One k v e o is) i has =
      let same = contains_one k i (subst (λ l. Contains l i) is has) in
      subst (λ j. j < length visits) (sym same) (slice_get_within visits k v e)
  chain_within first (More js j k v chain e o is) i has =
      elim (contains_more js k i (subst (λ l. Contains l i) is has)) [
        | inl before ↦ chain_within first chain i before
        | inr same ↦ subst (λ j. j < length visits) (sym same) (slice_get_within visits k v e)
      ]

pub steps_known : (visits : List TreeVisit) (place : ℕ) (v : TreeVisit) → slice_get visits place ≡ Some v
    → steps_at visits place ≡ spelled v.spot.piece.now
steps_known visits place v e = ap steps_in e

pub added : {T E : Type 0} (r : Result T E) (new old a b : List Step) → a ≡ b → OnOk r (new ≡ old ++ a)
    → OnOk r (new ≡ old ++ b)
added r new old a b e h = subst (λ l. OnOk r (new ≡ old ++ l)) e h
