-- The steps that the visits of a search spell.
use Rattle.std.specs.Prelude.{◌≡◌, ℕ, ◌+◌, ◌-◌, ◌<◌, ◌≤◌, List, [], ◌∷◌, ◌++◌, Option, Some, None, slice_get}
use Rattle.std.specs.Prelude.{take, drop}
use Rattle.std.specs.List.{flat_map}
use Rattle.road_base.specs.declared.ids.Step.{Step}
use Rattle.road_model.specs.declared.lists.Piece.{Piece}
use Rattle.road_model.specs.Lines.{steps_from}
use Rattle.context_search.specs.declared.ends.Goal.{Goal}
use Rattle.context_search.specs.declared.marks.Origin.TheVariants.{Begins, Follows}
use Rattle.context_search.specs.declared.marks.TreeVisit.{TreeVisit}

-- the steps of a piece as it is written
abbrev pub spelled : Piece → List Step
spelled e = steps_from e.name.way e.name.index (e.end - e.name.index) e.name.dir

abbrev pub steps_in : Option TreeVisit → List Step
steps_in None = []
steps_in (Some v) = spelled v.spot.piece.now

-- the steps of the piece of the visit at the place
abbrev pub steps_at : List TreeVisit → ℕ → List Step
steps_at visits k = steps_in (slice_get visits k)

-- the visits at these places lead from one that begins with the step to the one at the place
pub data IsChain (visits : List TreeVisit) (first : ℕ) : List ℕ → ℕ → Type 0 where
  One : {ks : List ℕ} (k : ℕ) (v : TreeVisit) → slice_get visits k ≡ Some v → v.origin ≡ Begins first → ks ≡ k ∷ []
      → IsChain visits first ks k
  More : {ks : List ℕ} (js : List ℕ) (j k : ℕ) (v : TreeVisit) → IsChain visits first js j → slice_get visits k ≡ Some v
      → v.origin ≡ Follows j → ks ≡ js ++ k ∷ [] → IsChain visits first ks k

-- each visit comes from one before
abbrev pub Descend : List TreeVisit → Type 0
Descend visits = (k j : ℕ) (v : TreeVisit) → slice_get visits k ≡ Some v → v.origin ≡ Follows j → j < k

-- the pieces of the visits ascend on their ways
abbrev pub AreSpelled : List TreeVisit → Type 0
AreSpelled visits = (k : ℕ) (v : TreeVisit) → slice_get visits k ≡ Some v
    → v.spot.piece.now.name.index ≤ v.spot.piece.now.end

-- the steps lead from the first step on over the pieces of visits to the one at the place, and to the goal
pub record IsRoute (visits : List TreeVisit) (place : ℕ) (goal : Goal) (d : List Step) : Type 0 where
  pub first : ℕ
  pub places : List ℕ
  pub chain : IsChain visits first places place
  pub is : d ≡ drop first (flat_map (steps_at visits) places ++ take (goal.last + 1) (spelled goal.piece.now))
