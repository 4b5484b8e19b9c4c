-- What a search by cost has come to, and what it hasn't gone on from.
use Rattle.std.specs.Prelude.{◌≡◌, ◌⊎◌, ℕ, ◌+◌, ◌-◌, ◌<◌, ◌≤◌, List, [], ◌∷◌, ◌++◌, length, Option, Some, None}
use Rattle.std.specs.Prelude.{Contains, slice_get, take, drop}
use Rattle.std.specs.BTreeMap.{BTreeMap}
use Rattle.std.specs.List.Sorted.{IsPermutation}
use Rattle.road_base.specs.declared.location.Location.{Location}
use Rattle.road_model.specs.declared.lists.PieceName.{PieceName}
use Rattle.road_model.specs.declared.lists.TurnArc.{TurnArc}
use Rattle.context_search.specs.declared.ends.Begin.{Begin}
use Rattle.context_search.specs.declared.ends.Goal.{Goal}
use Rattle.context_search.specs.declared.ends.DriveEnds.{DriveEnds}
use Rattle.context_search.specs.declared.marks.Origin.{Origin}
use Rattle.context_search.specs.declared.marks.Origin.TheVariants.{Begins, Follows}
use Rattle.context_search.specs.declared.spots.Spot.{Spot}
use Rattle.context_search.specs.Marks.{At, at_of, key_of, names_behind}
use Rattle.context_search.specs.Visits.{goal_in}
use Rattle.least_cost.specs.declared.visiting.CostVisit.{CostVisit}
use Rattle.least_cost.specs.declared.candidates.Candidate.{Candidate}
use Rattle.least_cost.specs.declared.candidates.FoundEnd.{FoundEnd}
use Rattle.least_cost.specs.declared.candidates.FoundEnd.TheVariants.{Within, Over}
use Rattle.least_cost.specs.Certified.{AtMost}
use Rattle.least_cost.specs.PlaceCosts.{places_cost}
use Rattle.least_cost.specs.Latitudes.{latitudes_left}

-- the visits in their order, and the places of those from which the search hasn't gone on
pub record Visiting : Type 0 where
  pub visits : List CostVisit
  pub waiting : List ℕ

abbrev pub ContextNames : Type 0
ContextNames = PieceName × List PieceName

abbrev pub names_at : CostVisit → ContextNames
names_at v = key_of (at_of v.spot)

-- the visit at the place is of the context of these names
pub record StandsAs (visits : List CostVisit) (q : ContextNames) (place : ℕ) : Type 0 where
  pub visit : CostVisit
  pub at : slice_get visits place ≡ Some visit
  pub named : names_at visit ≡ q

-- some visit is of the context of these names, and costs at most n
pub record IsVisitedAt (visits : List CostVisit) (q : ContextNames) (n : ℕ) : Type 0 where
  pub place : ℕ
  pub visit : CostVisit
  pub at : slice_get visits place ≡ Some visit
  pub named : names_at visit ≡ q
  pub cost : visit.cost ≤ n

-- the context is visited over a drive of this cost
pub record IsNewVisit (spot : Spot) (cost : ℕ) (origin : Origin) (m n : Visiting) : Type 0 where
  pub visits : n.visits ≡ m.visits ++ (record {
    spot = spot;
    cost = cost;
    origin = origin;
    whole = places_cost spot.piece.now.places;
  }) ∷ []
  pub waiting : IsPermutation (length m.visits ∷ m.waiting) n.waiting

-- the same, or it was visited before over one that costs no more
abbrev pub IsOffered : Spot → ℕ → Origin → Visiting → Visiting → Type 0
IsOffered spot cost origin m n = (IsVisitedAt m.visits (key_of (at_of spot)) cost × (n ≡ m))
    ⊎ IsNewVisit spot cost origin m n

-- the arc leads from context x to context y
abbrev pub LeadsOn : At → TurnArc → At → Type 0
LeadsOn x a y = key_of y ≡ (a.piece, names_behind x (a.length - 1))

-- an arc leads from the context of the visit at place j to that of the visit v, which costs so much more
pub record ComesFrom (visits : List CostVisit) (j : ℕ) (v : CostVisit) : Type 0 where
  pub before : CostVisit
  pub at : slice_get visits j ≡ Some before
  pub arc : TurnArc
  pub has : Contains (at_of before.spot).context.arcs arc
  pub leads : LeadsOn (at_of before.spot) arc (at_of v.spot)
  pub cost : v.cost ≡ before.cost + places_cost v.spot.piece.now.places

-- a drive begins with this step of the visit's piece, which is alone, and costs what is left of it
pub record BeginsDrive (starts : List Begin) (v : CostVisit) (first : ℕ) : Type 0 where
  pub start : Begin
  pub is : Contains starts start
  pub step : start.first ≡ first
  pub named : names_at v ≡ (start.piece.now.name, [])
  pub cost : v.cost ≡ places_cost (drop first v.spot.piece.now.places)

-- the visit goes on from one before
pub record HasBefore (visits : List CostVisit) (k : ℕ) (v : CostVisit) : Type 0 where
  pub before : ℕ
  pub is : v.origin ≡ Follows before
  pub less : before < k
  pub comes : ComesFrom visits before v

-- the visit is the first of a drive
pub record IsBeginning (starts : List Begin) (v : CostVisit) : Type 0 where
  pub first : ℕ
  pub is : v.origin ≡ Begins first
  pub begins : BeginsDrive starts v first

-- each visit begins a drive or goes on from one before
abbrev pub HaveOrigins : List Begin → List CostVisit → Type 0
HaveOrigins starts visits = (k : ℕ) (v : CostVisit) → slice_get visits k ≡ Some v
    → IsBeginning starts v ⊎ HasBefore visits k v

-- the visits are of these contexts, each with the cost of its piece, and only visits wait
pub record IsVisiting (L : List At) (m : Visiting) : Type 0 where
  pub listed : (k : ℕ) (v : CostVisit) → slice_get m.visits k ≡ Some v → Contains L (at_of v.spot)
  pub wholes : (k : ℕ) (v : CostVisit) → slice_get m.visits k ≡ Some v → v.whole ≡ places_cost v.spot.piece.now.places
  pub within : (k : ℕ) → Contains m.waiting k → k < length m.visits

-- all visits stay, and each new one goes on from one before
pub record Extends (m n : List CostVisit) : Type 0 where
  pub stays : (k : ℕ) (v : CostVisit) → slice_get m k ≡ Some v → slice_get n k ≡ Some v
  pub come : (k : ℕ) (v : CostVisit) → slice_get n k ≡ Some v → (slice_get m k ≡ Some v) ⊎ HasBefore n k v

-- the same, and the new ones wait to be gone on from
pub record Widens (m n : Visiting) : Type 0 where
  pub visits : Extends m.visits n.visits
  pub waits : (k : ℕ) → Contains m.waiting k → Contains n.waiting k
  pub new : (k : ℕ) (v : CostVisit) → slice_get n.visits k ≡ Some v
      → (slice_get m.visits k ≡ Some v) ⊎ Contains n.waiting k

-- all visits wait to be gone on from
abbrev pub AreWaiting : Visiting → Type 0
AreWaiting m = (k : ℕ) (v : CostVisit) → slice_get m.visits k ≡ Some v → Contains m.waiting k

-- where each of these arcs leads from context x is come to at no more than n and the cost of its piece
abbrev pub AreFollowed : List At → List CostVisit → At → ℕ → List TurnArc → Type 0
AreFollowed L visits x n arcs = (a : TurnArc) → Contains arcs a
    → (y : At) × Contains L y × LeadsOn x a y × IsVisitedAt visits (key_of y) (n + places_cost y.piece.places)

-- the cost of the goal's piece up to where it ends
abbrev pub goal_cost : Goal → ℕ
goal_cost g = places_cost (take (g.last + 2) g.piece.now.places)

-- the cost of the start's piece from where the drive begins up to where it ends
abbrev pub within_cost : Begin → Goal → ℕ
within_cost s g = places_cost (drop s.first (take (g.last + 2) s.piece.now.places))

-- C is at most what it costs to come to a goal by one of these arcs
abbrev pub AreMet : BTreeMap PieceName Goal → Option ℕ → ℕ → List TurnArc → Type 0
AreMet goals C n arcs = (a : TurnArc) (g : Goal) → Contains arcs a → goal_in goals a.piece ≡ Some g
    → AtMost C (Some (n + goal_cost g))

-- a visit from which no drive of less than C can come to the location
abbrev pub IsOver : Option ℕ → Location → CostVisit → Type 0
IsOver C to v = AtMost C (Some (v.cost + latitudes_left v.spot.piece.now.places to))

-- another visit of the same context costs less
abbrev pub IsBettered : List CostVisit → CostVisit → Type 0
IsBettered visits v = (n : ℕ) × (n < v.cost) × IsVisitedAt visits (names_at v) n

-- the search has gone on from the visit
pub record IsClosed (L : List At) (goals : BTreeMap PieceName Goal) (C : Option ℕ) (visits : List CostVisit)
    (v : CostVisit) : Type 0 where
  pub followed : AreFollowed L visits (at_of v.spot) v.cost (at_of v.spot).context.arcs
  pub met : AreMet goals C v.cost (at_of v.spot).context.arcs

-- there is no need to go on from the visit any more
abbrev pub IsDone : List At → BTreeMap PieceName Goal → Location → Option ℕ → List CostVisit → CostVisit → Type 0
IsDone L goals to C visits v = (IsOver C to v ⊎ IsBettered visits v) ⊎ IsClosed L goals C visits v

-- the visits that don't wait are done
abbrev pub AreDone : List At → BTreeMap PieceName Goal → Location → Option ℕ → Visiting → Type 0
AreDone L goals to C m = (k : ℕ) (v : CostVisit) → slice_get m.visits k ≡ Some v
    → Contains m.waiting k ⊎ IsDone L goals to C m.visits v

-- the cost of what was found
abbrev pub cost_in : Option Candidate → Option ℕ
cost_in None = None
cost_in (Some c) = Some c.cost

-- a drive within the piece, and its cost
pub record EndsWithin (starts : List Begin) (goals : BTreeMap PieceName Goal) (s : Begin) (g : Goal) (cost : ℕ)
    : Type 0 where
  pub is : Contains starts s
  pub met : goal_in goals s.piece.now.name ≡ Some g
  pub rises : s.first ≤ g.last
  pub is_cost : cost ≡ within_cost s g

-- an arc from the context of the visit at the place leads to the goal, and the drive's cost
pub record EndsOver (goals : BTreeMap PieceName Goal) (visits : List CostVisit) (place : ℕ) (g : Goal) (cost : ℕ)
    : Type 0 where
  pub visit : CostVisit
  pub at : slice_get visits place ≡ Some visit
  pub arc : TurnArc
  pub has : Contains (at_of visit.spot).context.arcs arc
  pub met : goal_in goals arc.piece ≡ Some g
  pub is_cost : cost ≡ visit.cost + goal_cost g

abbrev pub HasEnd : List Begin → BTreeMap PieceName Goal → List CostVisit → ℕ → FoundEnd → Type 0
HasEnd starts goals visits cost (Within s g) = EndsWithin starts goals s g cost
HasEnd starts goals visits cost (Over place g) = EndsOver goals visits place g cost

-- what was found is a drive of its cost
abbrev pub IsFoundBy : List Begin → BTreeMap PieceName Goal → List CostVisit → Option Candidate → Type 0
IsFoundBy starts goals visits None = Unit {0}
IsFoundBy starts goals visits (Some c) = HasEnd starts goals visits c.cost c.end

-- n is what was found before, or the candidate, whichever costs less
pub record IsLesser (m : Option Candidate) (other : Candidate) (n : Option Candidate) : Type 0 where
  pub old : AtMost (cost_in n) (cost_in m)
  pub new : AtMost (cost_in n) (Some other.cost)
  pub is : (n ≡ m) ⊎ (n ≡ Some other)

-- what is found behind what was: the same, or a drive by an arc from one of the visits
pub record IsFoundOver (goals : BTreeMap PieceName Goal) (visits : List CostVisit) (found : Option Candidate) : Type 0
  where
    pub candidate : Candidate
    pub is : found ≡ Some candidate
    pub place : ℕ
    pub goal : Goal
    pub end : candidate.end ≡ Over place goal
    pub ends : EndsOver goals visits place goal candidate.cost

abbrev pub IsFoundAfter : BTreeMap PieceName Goal → List CostVisit → Option Candidate → Option Candidate → Type 0
IsFoundAfter goals visits best found = (found ≡ best) ⊎ IsFoundOver goals visits found

-- a drive by the arc from the context of the visit at the place is looked at
pub record IsMetBy (goals : BTreeMap PieceName Goal) (visits : List CostVisit) (n : ℕ) (arcs : List TurnArc)
    (best found : Option Candidate) : Type 0 where
  pub less : AtMost (cost_in found) (cost_in best)
  pub met : AreMet goals (cost_in found) n arcs
  pub from : IsFoundAfter goals visits best found

-- the context to which the arc leads from the one of the visit at the place is come to
pub record IsFollowedBy (L : List At) (place : ℕ) (v : CostVisit) (arc : TurnArc) (m n : Visiting) : Type 0 where
  pub to : Spot
  pub listed : Contains L (at_of to)
  pub leads : LeadsOn (at_of v.spot) arc (at_of to)
  pub offered : IsOffered to (v.cost + places_cost to.piece.now.places) (Follows place) m n

-- the context of the start's piece alone is come to
pub record IsBegunBy (L : List At) (s : Begin) (m n : Visiting) : Type 0 where
  pub from : Spot
  pub listed : Contains L (at_of from)
  pub named : key_of (at_of from) ≡ (s.piece.now.name, [])
  pub offered : IsOffered from (places_cost (drop s.first from.piece.now.places)) (Begins s.first) m n

-- the least of what was found and a drive within the start's piece
pub record IsWithinBy (goals : BTreeMap PieceName Goal) (s : Begin) (best found : Option Candidate) : Type 0 where
  pub less : AtMost (cost_in found) (cost_in best)
  pub within : (g : Goal) → goal_in goals s.piece.now.name ≡ Some g → s.first ≤ g.last
      → AtMost (cost_in found) (Some (within_cost s g))
  pub from : (starts : List Begin) → Contains starts s → IsFoundBy starts goals [] best
      → IsFoundBy starts goals [] found

-- the context of the start's piece alone is come to, at no more than from its step to the piece's end
pub record IsReachedFrom (L : List At) (visits : List CostVisit) (s : Begin) : Type 0 where
  pub from : At
  pub listed : Contains L from
  pub named : key_of from ≡ (s.piece.now.name, [])
  pub reached : IsVisitedAt visits (key_of from) (places_cost (drop s.first from.piece.places))

abbrev pub AreBegun : List At → List Begin → List CostVisit → Type 0
AreBegun L starts visits = (s : Begin) → Contains starts s → IsReachedFrom L visits s

-- C is at most the cost of each drive within a piece from one of the starts to a goal
abbrev pub AreWithin : List Begin → BTreeMap PieceName Goal → Option ℕ → Type 0
AreWithin starts goals C = (s : Begin) (g : Goal) → Contains starts s → goal_in goals s.piece.now.name ≡ Some g
    → s.first ≤ g.last → AtMost C (Some (within_cost s g))

-- What a search between these ends has come to that leads to the location: it has begun on all pieces on which a drive
-- may begin, it is done with each visit, and what it found is the least of the drives that it looked at.
pub record IsExhausted (L : List At) (ends : DriveEnds) (to : Location) (visits : List CostVisit) (best : Option
    Candidate)
    : Type 0 where
  pub listed : (k : ℕ) (v : CostVisit) → slice_get visits k ≡ Some v → Contains L (at_of v.spot)
  pub origins : HaveOrigins ends.starts.items visits
  pub begun : AreBegun L ends.starts.items visits
  pub done : (k : ℕ) (v : CostVisit) → slice_get visits k ≡ Some v → IsDone L ends.goals to (cost_in best) visits v
  pub within : AreWithin ends.starts.items ends.goals (cost_in best)
  pub found : IsFoundBy ends.starts.items ends.goals visits best
