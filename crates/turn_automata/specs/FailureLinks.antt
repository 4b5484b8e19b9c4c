-- Failure links: from each of an automaton's lists to the longest shorter one that ends it.
use Rattle.std.specs.Prelude.{ℕ, ◌<◌, List, ◌∷◌, length, slice_index, Contains}
use Rattle.road_model.specs.Contexts.{IsLongestEnd}
use Rattle.turn_automata.specs.Trees.{Stands}

module _ {S : Type 0} where
  -- the list with number n is the longest of the lists that ends d
  pub record IsLongestIn (ps : List (List S)) (d : List S) (n : ℕ) : Type 0 where
    pub list : List S
    pub at : Stands ps n list
    pub longest : IsLongestEnd (Contains ps) d list

  -- for each list but the empty one the number of the longest list that ends it and is shorter
  abbrev pub AreFailureLinks : List (List S) → List ℕ → Type 0
  AreFailureLinks ps links = (n : ℕ) (x : S) (d : List S) → n < length links → Stands ps n (x ∷ d)
      → IsLongestIn ps d (slice_index links n)

-- each number but the first is above the one to which its failure link leads
abbrev pub Descends : List ℕ → Type 0
Descends links = (n : ℕ) → 0 < n → n < length links → slice_index links n < n
