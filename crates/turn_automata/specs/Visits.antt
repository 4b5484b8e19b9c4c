-- The places in words at which a step comes next, each with the state of the steps before it.
use Rattle.std.specs.Prelude.{◌≡◌, ℕ, ◌+◌, ◌<◌, ◌≤◌, List, ◌∷◌, ◌++◌, length, Some, slice_get, Contains}
use Rattle.road_base.specs.declared.ids.Step.{Step}
use Rattle.restrictions.specs.declared.word_list.Word.{Word}
use Rattle.turn_automata.specs.declared.visits.Visit.{Visit}
use Rattle.turn_automata.specs.Trees.{Stands, IsGrownBy, Rises}
use Rattle.turn_automata.specs.Watched.{IsWatchable}

-- a step of a word, which has so many steps before it, and the number of their list
pub record IsVisit (W : List Word) (ps : List (List Step)) (v : Visit) : Type 0 where
  pub word : Word
  pub of : slice_get W v.word ≡ Some word
  pub before : List Step
  pub next : Step
  pub rest : List Step
  pub steps : word.steps ≡ before ++ next ∷ rest
  pub depth : length before ≡ v.depth
  pub at : Stands ps v.state before

-- a visit of the word behind so many of its steps
pub record Reaches (vs : List Visit) (word depth : ℕ) : Type 0 where
  pub visit : Visit
  pub among : Contains vs visit
  pub of : visit.word ≡ word
  pub at : visit.depth ≡ depth

-- the visits are those of all steps of all words
pub record AreVisits (W : List Word) (ps : List (List Step)) (vs : List Visit) : Type 0 where
  pub sound : (v : Visit) → Contains vs v → IsVisit W ps v
  pub complete : (i : ℕ) (w : Word) (k : ℕ) → slice_get W i ≡ Some w → k < length w.steps → Reaches vs i k

-- the visited step is the word's last
abbrev pub IsLast : List Word → Visit → Type 0
IsLast W v = (w : Word) → slice_get W v.word ≡ Some w → length w.steps ≡ v.depth + 1

-- u visits the step behind v's; its list is in the tree now
pub record IsNext (W : List Word) (ps : List (List Step)) (v : Visit) (qs : List (List Step)) (u : Visit) : Type 0 where
  pub of : u.word ≡ v.word
  pub depth : u.depth ≡ v.depth + 1
  pub is : IsVisit W qs u
  pub grown : (p : List Step) → Stands qs u.state p → IsGrownBy ps p qs

-- the visits of first steps
pub record AreFirst (W : List Word) (vs : List Visit) (n : ℕ) : Type 0 where
  pub sound : (v : Visit) → Contains vs v → (w : Word) × (slice_get W v.word ≡ Some w) × (0 < length w.steps)
      × (v.depth ≡ 0) × (v.state ≡ 0)
  pub complete : (i : ℕ) (w : Word) → i < n → slice_get W i ≡ Some w → 0 < length w.steps → Reaches vs i 0

-- Of visits in the order of their depths the first n were followed by those of the steps behind.
pub record AreFollowed (W : List Word) (ps : List (List Step)) (vs : List Visit) (n : ℕ) : Type 0 where
  pub sound : (v : Visit) → Contains vs v → IsVisit W ps v
  pub begun : (i : ℕ) (w : Word) → slice_get W i ≡ Some w → 0 < length w.steps → Reaches vs i 0
  pub followed : (j : ℕ) (v : Visit) → j < n → slice_get vs j ≡ Some v → (w : Word) → slice_get W v.word ≡ Some w
      → v.depth + 1 < length w.steps → Reaches vs v.word (v.depth + 1)
  pub watched : (p : List Step) → Contains ps p → IsWatchable W p
  pub rises : Rises ps
  pub order : (j k : ℕ) (v u : Visit) → slice_get vs j ≡ Some v → slice_get vs k ≡ Some u → j ≤ k → v.depth ≤ u.depth
  pub near : (v : Visit) → slice_get vs n ≡ Some v → (u : Visit) → Contains vs u → u.depth ≤ v.depth + 1
  pub short : (v : Visit) → slice_get vs n ≡ Some v → (p : List Step) → Contains ps p → length p ≤ v.depth + 1
