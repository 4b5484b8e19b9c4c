-- Texts, cut at a byte.
use Rattle.std.specs.Prelude.{◌≡◌, ◌==◌, ◌++◌, ◌∷◌, ℕ, List, All, false}
use Rattle.std.specs.List.{slice_split}

-- the parts between the bytes that stop: always one more than these
abbrev pub parts : ℕ → List ℕ → List (List ℕ)
parts stop bs = slice_split (λ b. b == stop) bs

-- the byte stands nowhere among these
abbrev pub Lacks : ℕ → List ℕ → Type 0
Lacks stop bs = All (λ b. (b == stop) ≡ false) bs

-- the front ends at the first such byte, and the rest stands behind it
pub record IsCutAt (stop : ℕ) (bs front rest : List ℕ) : Type 0 where
  pub written : bs ≡ front ++ (stop ∷ rest)
  pub first : Lacks stop front
