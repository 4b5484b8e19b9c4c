use Rattle.std.proofs.Common.{◌≡◌, ℕ, ◌<◌, [], Some, false, slice_get}
use Rattle.restrictions.specs.declared.word_list.Word.{Word}
use Rattle.turn_automata.proofs.automaton.has_empty_no.Given as goal

-- none of the words so far is a No word with no steps
abbrev pub invariant-loop-word : goal.invariant-loop-word
invariant-loop-word l = (k : ℕ) (w : Word) → k < l.word-index → slice_get l.words k ≡ Some w
    → (w.only ≡ false) × (w.steps ≡ []) → ⊥
