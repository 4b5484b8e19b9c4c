-- What contracts see of an automaton.
use Rattle.std.specs.Prelude.{◌≡◌, ℕ, ◌↔◌, List, [], length, Bool, IsTrue, Some, slice_get}
use Rattle.road_base.specs.declared.ids.Step.{Step}
use Rattle.restrictions.specs.declared.word_list.Word.{Word}
use Rattle.turn_automata.specs.declared.turns.Turns.{Turns}
use Rattle.turn_automata.specs.FailureLinks.{Descends}
use Rattle.turn_automata.specs.Turns.{IsWatching}
use Rattle.turn_automata.specs.Watched.{Watched, NoIn}

-- the words that it watches for, and the list for which each of its states stands
pub record Machine : Type 0 where
  pub words : List Word
  pub states : List (List Step)

-- the state with number n stands for the list
abbrev pub StandsFor : Machine → ℕ → List Step → Type 0
StandsFor m n p = slice_get m.states n ≡ Some p

-- the state with number n stands for what is watched of the steps
pub record Watches (m : Machine) (n : ℕ) (d : List Step) : Type 0 where
  pub list : List Step
  pub watched : Watched m.words d list
  pub is : StandsFor m n list

-- the parts of an automaton are those of its words; it is stopped from the first if a No word has no steps
pub record IsMachine (W : List Word) (ps : List (List Step)) (links : List ℕ) (turns : Turns) (stopped : Bool) : Type 0
  where
    pub len : length links ≡ length ps
    pub descends : Descends links
    pub watching : IsWatching W ps links turns
    pub never : IsTrue stopped ↔ NoIn W []
