-- How many steps of words are still to be visited.
use Rattle.std.specs.Prelude.{ℕ, ◌+◌, ◌-◌, List, [], ◌∷◌, length, Option, None, Some, slice_get}
use Rattle.restrictions.specs.declared.word_list.Word.{Word}
use Rattle.turn_automata.specs.declared.visits.Visit.{Visit}

abbrev pub steps_of : Option Word → ℕ
steps_of None = 0
steps_of (Some w) = length w.steps

-- the steps from each visit to the end of its word, together
abbrev pub work : List Word → List Visit → ℕ
work W [] = 0
work W (v ∷ vs) = steps_of (slice_get W v.word) - v.depth + work W vs
