-- What a search over the contexts of a graph has visited, and what it hasn't gone on from.
use Rattle.std.specs.Prelude.{◌≡◌, ◌⊎◌, ℕ, ◌+◌, ◌-◌, ◌*◌, ◌<◌, ◌≤◌, List, [], ◌∷◌, ◌++◌, length, Option, Some, None}
use Rattle.std.specs.Prelude.{Bool, cond, Contains, slice_get, zero, suc}
use Rattle.std.specs.Ordering.{is_eq, ordering_then, nat_cmp}
use Rattle.std.specs.declared.cmp.Ordering.{Ordering}
use Rattle.std.specs.Cmp.Lexicographic.{slice_cmp}
use Rattle.std.specs.BTreeMap.{BTreeMap, get}
use Rattle.std.specs.BTreeSet.{BTreeSet, contains}
use Rattle.std.specs.List.{list_any}
use Rattle.std.specs.List.Sorted.{IsPermutation}
use Rattle.road_model.specs.declared.lists.PieceName.{PieceName}
use Rattle.road_model.specs.declared.lists.TurnArc.{TurnArc}
use Rattle.road_model.specs.Orders.{name_cmp}
use Rattle.context_search.specs.declared.ends.Begin.{Begin}
use Rattle.context_search.specs.declared.ends.Goal.{Goal}
use Rattle.context_search.specs.declared.marks.ContextName.{ContextName}
use Rattle.context_search.specs.declared.marks.Origin.{Origin}
use Rattle.context_search.specs.declared.marks.Origin.TheVariants.{Begins, Follows}
use Rattle.context_search.specs.declared.marks.TreeVisit.{TreeVisit}
use Rattle.context_search.specs.declared.spots.Spot.{Spot}
use Rattle.context_search.specs.Marks.{At, at_of, key_of, names_behind}
use Rattle.context_search.specs.Phases.{PhaseRules}

abbrev pub goal_in : BTreeMap PieceName Goal → PieceName → Option Goal
goal_in goals n = get name_cmp goals n

-- the names of a context, and a phase in which it is visited
abbrev pub StateKey : Type 0
StateKey = (PieceName × List PieceName) × ℕ

-- a context's names and a phase as they are kept in a set
abbrev pub names_in : ContextName → StateKey
names_in q = ((q.piece, q.before.now), q.phase)

-- the order in a set: by the piece, then by those before it, the first ones first, then by the phase
abbrev pub kept_cmp : StateKey → StateKey → Ordering
kept_cmp a b = ordering_then (name_cmp a.0.0 b.0.0) (ordering_then (slice_cmp name_cmp a.0.1 b.0.1) (nat_cmp a.1 b.1))

-- the same, of names as they are kept
abbrev pub context_cmp : ContextName → ContextName → Ordering
context_cmp a b = kept_cmp (names_in a) (names_in b)

-- the names of the context in a phase
abbrev pub state_key : Spot → ℕ → StateKey
state_key spot phase = (key_of (at_of spot), phase)

-- the names of the context that is visited, and its phase
abbrev pub visit_key : TreeVisit → StateKey
visit_key v = state_key v.spot v.phase

-- which contexts are known to be visited, the visits, and the places of those from which the search hasn't gone on
pub record Marks : Type 0 where
  pub known : BTreeSet ContextName
  pub visits : List TreeVisit
  pub waiting : List ℕ

-- the names of the context to which the arc leads from x
abbrev pub target_key : At → TurnArc → PieceName × List PieceName
target_key x a = (a.piece, names_behind x (a.length - 1))

-- some visit is of the context with these names, in the phase
pub record IsVisited (visits : List TreeVisit) (k : StateKey) : Type 0 where
  pub place : ℕ
  pub visit : TreeVisit
  pub at : slice_get visits place ≡ Some visit
  pub named : visit_key visit ≡ k

-- whether it is so
abbrev pub is_visited : List TreeVisit → StateKey → Bool
is_visited visits k = list_any (λ v. is_eq (kept_cmp k (visit_key v))) visits

-- exactly what is visited is known to be
abbrev pub AreKnown : Marks → Type 0
AreKnown m = (q : ContextName) → contains context_cmp m.known q ≡ is_visited m.visits (names_in q)

-- an arc leads from the context of the visit at place j to this one, and the visit's phase goes on to this one by it
pub record Comes (F : PhaseRules) (visits : List TreeVisit) (j : ℕ) (spot : Spot) (phase : ℕ) : Type 0 where
  pub before : TreeVisit
  pub at : slice_get visits j ≡ Some before
  pub arc : TurnArc
  pub has : Contains before.spot.context.now.arcs arc
  pub leads : key_of (at_of spot) ≡ target_key (at_of before.spot) arc
  pub goes : F.go before.phase spot.piece.now.zone ≡ Some phase

-- the names of the context of the start's piece alone, and the phase in which a drive begins on it
abbrev pub first_key : PhaseRules → Begin → StateKey
first_key F s = ((s.piece.now.name, []), F.start s.piece.now.zone)

-- a drive begins with the step of the piece of the context with these names, which is one of the piece alone
pub record Begun (F : PhaseRules) (starts : List Begin) (k : StateKey) (first : ℕ) : Type 0 where
  pub start : Begin
  pub is : Contains starts start
  pub step : start.first ≡ first
  pub named : k ≡ first_key F start

-- the context is visited anew
pub record IsNew (spot : Spot) (phase : ℕ) (origin : Origin) (m n : Marks) : Type 0 where
  pub fresh : IsVisited m.visits (state_key spot phase) → ⊥
  pub few : phase < 256
  pub driven : ℕ
  pub visits : n.visits ≡ m.visits ++ (record { spot = spot; phase = phase; origin = origin; driven = driven }) ∷ []
  pub waiting : IsPermutation (length m.visits ∷ m.waiting) n.waiting

-- the context is visited now in the phase: it was before, or is visited anew
abbrev pub IsMarked : Spot → ℕ → Origin → Marks → Marks → Type 0
IsMarked spot phase origin m n = (IsVisited m.visits (state_key spot phase) × (n ≡ m)) ⊎ IsNew spot phase origin m n

-- the visits are of listed contexts, each come to from one before or else begun, and exactly they are known
pub record IsSearch (F : PhaseRules) (L : List At) (m : Marks) : Type 0 where
  pub known : AreKnown m
  pub listed : (k : ℕ) (v : TreeVisit) → slice_get m.visits k ≡ Some v → Contains L (at_of v.spot)
  pub comes : (k j : ℕ) (v : TreeVisit) → slice_get m.visits k ≡ Some v → v.origin ≡ Follows j
      → (j < k) × Comes F m.visits j v.spot v.phase
  pub within : (k : ℕ) → Contains m.waiting k → k < length m.visits

-- the visits that begin a drive are those of the starts
abbrev pub AreBegun : PhaseRules → List Begin → Marks → Type 0
AreBegun F starts m = (k first : ℕ) (v : TreeVisit) → slice_get m.visits k ≡ Some v → v.origin ≡ Begins first
    → Begun F starts (visit_key v) first

-- in how many of the first phases the context with these names isn't visited
abbrev pub unvisited_in : ℕ → PieceName × List PieceName → List TreeVisit → ℕ
unvisited_in zero k visits = 0
unvisited_in (suc n) k visits = cond (is_visited visits (k, n)) 0 1 + unvisited_in n k visits

-- the same of all phases, which are as many as a byte has values
unfoldable pub unvisited_at : PieceName × List PieceName → List TreeVisit → ℕ
unvisited_at k visits = unvisited_in 256 k visits

-- in how many phases contexts aren't visited
abbrev pub unvisited : List At → List TreeVisit → ℕ
unvisited [] visits = 0
unvisited (x ∷ L) visits = unvisited_at (key_of x) visits + unvisited L visits

-- what a search may still take, at most
abbrev pub left : List At → Marks → ℕ
left L m = 2 * unvisited L m.visits + length m.waiting

-- all visits stay, and the new ones wait to be gone on from
pub record Grows (L : List At) (m n : Marks) : Type 0 where
  pub stays : (k : ℕ) (v : TreeVisit) → slice_get m.visits k ≡ Some v → slice_get n.visits k ≡ Some v
  pub waits : (k : ℕ) → Contains m.waiting k → Contains n.waiting k
  pub new : (k : ℕ) (v : TreeVisit) → slice_get n.visits k ≡ Some v
      → (slice_get m.visits k ≡ Some v) ⊎ Contains n.waiting k
  pub less : left L n ≤ left L m

-- no further visit begins a drive
abbrev pub NoneBegun : Marks → Marks → Type 0
NoneBegun m n = (k first : ℕ) (v : TreeVisit) → slice_get n.visits k ≡ Some v → v.origin ≡ Begins first
    → slice_get m.visits k ≡ Some v

-- all contexts to which arcs lead are listed
abbrev pub HasTargets : List At → Type 0
HasTargets L = (x : At) (a : TurnArc) → Contains L x → Contains x.context.arcs a
    → (y : At) × Contains L y × (key_of y ≡ target_key x a)

-- the phase goes on to no goal by the arc
abbrev pub Misses : PhaseRules → BTreeMap PieceName Goal → ℕ → TurnArc → Type 0
Misses F goals f a = (g : Goal) → goal_in goals a.piece ≡ Some g → F.go f g.piece.now.zone ≡ None

-- the context to which the arc leads from x is visited in the phase in which phase f goes on, if it does
pub record IsVisitedBy (F : PhaseRules) (L : List At) (visits : List TreeVisit) (x : At) (f : ℕ) (a : TurnArc) : Type 0
  where
    pub target : At
    pub listed : Contains L target
    pub named : key_of target ≡ target_key x a
    pub visited : (g : ℕ) → F.go f target.piece.zone ≡ Some g → IsVisited visits (key_of target, g)

-- none of these arcs of a context leads to a goal from the phase, and where each leads is visited
abbrev pub AreFollowed : PhaseRules → List At → BTreeMap PieceName Goal → List TreeVisit → At → ℕ → List TurnArc
    → Type 0
AreFollowed F L goals visits x f arcs = (a : TurnArc) → Contains arcs a
    → Misses F goals f a × IsVisitedBy F L visits x f a

-- all arcs from the visit's context are followed
abbrev pub IsClosed : PhaseRules → List At → BTreeMap PieceName Goal → List TreeVisit → TreeVisit → Type 0
IsClosed F L goals visits v = AreFollowed F L goals visits (at_of v.spot) v.phase v.spot.context.now.arcs

-- the search has gone on from each visit, but from those that wait
abbrev pub AreClosed : PhaseRules → List At → BTreeMap PieceName Goal → Marks → Type 0
AreClosed F L goals m = (k : ℕ) (v : TreeVisit) → slice_get m.visits k ≡ Some v
    → Contains m.waiting k ⊎ IsClosed F L goals m.visits v

-- an arc from the context of the visit at the place leads to a goal, by which its phase goes on
pub record Meets (F : PhaseRules) (goals : BTreeMap PieceName Goal) (visits : List TreeVisit) (place : ℕ) (goal : Goal)
    : Type 0
  where
    pub visit : TreeVisit
    pub at : slice_get visits place ≡ Some visit
    pub arc : TurnArc
    pub has : Contains visit.spot.context.now.arcs arc
    pub met : goal_in goals arc.piece ≡ Some goal
    pub next : ℕ
    pub goes : F.go visit.phase goal.piece.now.zone ≡ Some next
