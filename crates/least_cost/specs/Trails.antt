-- The steps that the visits of a search by cost spell.
use Rattle.std.specs.Prelude.{◌≡◌, ℕ, ◌+◌, ◌-◌, ◌<◌, ◌≤◌, List, [], ◌∷◌, ◌++◌, Option, Some, None, slice_get}
use Rattle.std.specs.Prelude.{take, drop}
use Rattle.std.specs.List.{flat_map}
use Rattle.road_base.specs.declared.ids.Step.{Step}
use Rattle.context_search.specs.declared.ends.Begin.{Begin}
use Rattle.context_search.specs.declared.ends.Goal.{Goal}
use Rattle.context_search.specs.declared.marks.Origin.TheVariants.{Begins, Follows}
use Rattle.context_search.specs.Routes.{spelled}
use Rattle.least_cost.specs.declared.visiting.CostVisit.{CostVisit}
use Rattle.least_cost.specs.declared.candidates.FoundEnd.{FoundEnd}
use Rattle.least_cost.specs.declared.candidates.FoundEnd.TheVariants.{Within, Over}

abbrev pub steps_by : Option CostVisit → List Step
steps_by None = []
steps_by (Some v) = spelled v.spot.piece.now

-- the steps of the piece of the visit at the place
abbrev pub steps_at : List CostVisit → ℕ → List Step
steps_at visits k = steps_by (slice_get visits k)

-- the visits at these places lead from one that begins with the step to the one at the place
pub data IsTrail (visits : List CostVisit) (first : ℕ) : List ℕ → ℕ → Type 0 where
  One : {ks : List ℕ} (k : ℕ) (v : CostVisit) → slice_get visits k ≡ Some v → v.origin ≡ Begins first → ks ≡ k ∷ []
      → IsTrail visits first ks k
  More : {ks : List ℕ} (js : List ℕ) (j k : ℕ) (v : CostVisit) → IsTrail visits first js j → slice_get visits k ≡ Some v
      → v.origin ≡ Follows j → ks ≡ js ++ k ∷ [] → IsTrail visits first ks k

-- each visit comes from one before
abbrev pub Descend : List CostVisit → Type 0
Descend visits = (k j : ℕ) (v : CostVisit) → slice_get visits k ≡ Some v → v.origin ≡ Follows j → j < k

-- the pieces of the visits ascend on their ways
abbrev pub Ascend : List CostVisit → Type 0
Ascend visits = (k : ℕ) (v : CostVisit) → slice_get visits k ≡ Some v
    → v.spot.piece.now.name.index ≤ v.spot.piece.now.end

-- the steps lead from the first step on over the pieces of visits to the one at the place, and to the goal
pub record IsWayTo (visits : List CostVisit) (place : ℕ) (goal : Goal) (d : List Step) : Type 0 where
  pub first : ℕ
  pub places : List ℕ
  pub trail : IsTrail visits first places place
  pub is : d ≡ drop first (flat_map (steps_at visits) places ++ take (goal.last + 1) (spelled goal.piece.now))

-- the steps from where the drive begins to where it ends on one piece
abbrev pub steps_within : Begin → Goal → List Step
steps_within s g = take (g.last + 1 - s.first) (drop s.first (spelled s.piece.now))

-- the steps of a drive that ends so
abbrev pub IsDriveOf : List CostVisit → FoundEnd → List Step → Type 0
IsDriveOf visits (Within s g) d = d ≡ steps_within s g
IsDriveOf visits (Over place g) d = IsWayTo visits place g d
