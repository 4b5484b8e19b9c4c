-- Words of another number than a command has.
use Rattle.std.proofs.Common.{◌≡◌, ℕ, List, [], ◌∷◌, length, None, refl}
use Rattle.cells.specs.Commands.{profiled_cell_of, asked_rest, asked_range}

pub no_rest : (words : List (List ℕ)) → (length words ≡ 2 → ⊥) → None ≡ asked_rest words
no_rest [] other = refl
no_rest (one ∷ []) other = refl
no_rest (one ∷ two ∷ []) other = absurd (other refl)
no_rest (one ∷ two ∷ three ∷ more) other = refl

pub no_range : (words : List (List ℕ)) → (length words ≡ 2 → ⊥) → None ≡ asked_range words
no_range [] other = refl
no_range (one ∷ []) other = refl
no_range (one ∷ two ∷ []) other = absurd (other refl)
no_range (one ∷ two ∷ three ∷ more) other = refl

pub no_profiled_cell : (words : List (List ℕ)) → (length words ≡ 2 → ⊥) → (length words ≡ 3 → ⊥)
    → None ≡ profiled_cell_of words
no_profiled_cell [] other another = refl
no_profiled_cell (one ∷ []) other another = refl
no_profiled_cell (one ∷ two ∷ []) other another = absurd (other refl)
no_profiled_cell (one ∷ two ∷ three ∷ []) other another = absurd (another refl)
no_profiled_cell (one ∷ two ∷ three ∷ four ∷ more) other another = refl
