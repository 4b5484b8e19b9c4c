-- What follows from the words where a step is driven behind a watched list.
use Rattle.std.specs.Prelude.{◌≡◌, ℕ, ◌+◌, ◌≤◌, ◌↔◌, ◌⊎◌, List, [], ◌∷◌, ◌++◌, length, Bool, true, false, IsTrue, Some}
use Rattle.std.specs.Prelude.{slice_get, Contains}
use Rattle.std.specs.Ordering.{nat_cmp, ordering_then}
use Rattle.std.specs.declared.cmp.Ordering.{Ordering}
use Rattle.std.specs.BTreeSet.{contains}
use Rattle.road_base.specs.declared.ids.Step.{Step}
use Rattle.road_base.specs.contracts.ids.StepOrd.TheImpl.{ghosts as step_order}
use Rattle.restrictions.specs.declared.word_list.Word.{Word}
use Rattle.turn_automata.specs.declared.visits.Visit.{Visit}
use Rattle.turn_automata.specs.declared.turns.Turns.{Turns}
use Rattle.turn_automata.specs.Trees.{Stands, IsClosed}
use Rattle.turn_automata.specs.FailureLinks.{AreFailureLinks}
use Rattle.turn_automata.specs.Watched.{IsWatchable, NoIn, Must}

-- by state, then step
abbrev pub edge_cmp : ℕ × Step → ℕ × Step → Ordering
edge_cmp a b = ordering_then (nat_cmp a.0 b.0) (step_order.cmp a.1 b.1)

-- the visited step is the last one of a No word
pub record EndsAt (W : List Word) (v : Visit) (e : ℕ × Step) : Type 0 where
  pub word : Word
  pub of : slice_get W v.word ≡ Some word
  pub no : word.only ≡ false
  pub last : length word.steps ≡ v.depth + 1
  pub state : v.state ≡ e.0
  pub step : slice_get word.steps v.depth ≡ Some e.1

-- an Only word demands the visited step
pub record DemandsAt (W : List Word) (v : Visit) (e : ℕ × Step) : Type 0 where
  pub word : Word
  pub of : slice_get W v.word ≡ Some word
  pub only : word.only ≡ true
  pub bound : word.binding ≤ v.depth
  pub state : v.state ≡ e.0
  pub step : slice_get word.steps v.depth ≡ Some e.1

abbrev pub DemandsFrom : List Word → Visit → ℕ → Type 0
DemandsFrom W v n = (x : Step) × DemandsAt W v (n, x)

-- the test holds of what some visit gives, and of nothing else
abbrev pub Collects : {K : Type 0} → (Visit → K → Type 0) → List Visit → (K → Bool) → Type 0
Collects {K} Gives vs has = (k : K) → IsTrue (has k) ↔ ((v : Visit) × Contains vs v × Gives v k)

-- the turns that the visits give
pub record AreMarked (W : List Word) (vs : List Visit) (t : Turns) : Type 0 where
  pub ends : Collects (EndsAt W) vs (contains edge_cmp t.ends)
  pub demanded : Collects (DemandsAt W) vs (contains edge_cmp t.demanded)
  pub demanding : Collects (DemandsFrom W) vs (contains nat_cmp t.demanding)

-- the turns behind the lists that are those of the words
pub record AreTurns (W : List Word) (ps : List (List Step)) (t : Turns) : Type 0 where
  pub ends : (n : ℕ) (p : List Step) (x : Step) → Stands ps n p
      → IsTrue (contains edge_cmp t.ends (n, x)) ↔ NoIn W (p ++ x ∷ [])
  pub demanded : (n : ℕ) (p : List Step) (x : Step) → Stands ps n p
      → IsTrue (contains edge_cmp t.demanded (n, x)) ↔ Must W p x
  pub demanding : (n : ℕ) (p : List Step) → Stands ps n p
      → IsTrue (contains nat_cmp t.demanding n) ↔ ((x : Step) × Must W p x)

-- behind p itself the words stop s: a No word ends there, or some step must come and s isn't one that must
abbrev pub StopsAt : List Word → List Step → Step → Type 0
StopsAt W p s = NoIn W (p ++ s ∷ []) ⊎ ((x : Step) × Must W p x × (Must W p s → ⊥))

-- the lists, failure links and turns are those of the words
pub record IsWatching (W : List Word) (ps : List (List Step)) (fs : List ℕ) (t : Turns) : Type 0 where
  pub closed : IsClosed ps
  pub lists : (p : List Step) → Contains ps p ↔ IsWatchable W p
  pub links : AreFailureLinks ps fs
  pub turns : AreTurns W ps t
