-- Lists that grow out of the empty one by a step at a time, numbered in the order of their coming.
use Rattle.std.specs.Prelude.{◌≡◌, ℕ, ◌≤◌, ◌⊎◌, List, [], ◌∷◌, ◌++◌, length, Some, slice_get, slice_index_or}
use Rattle.road_base.specs.declared.ids.Step.{Step}
use Rattle.turn_automata.specs.declared.edges.Edge.{Edge}

module _ {S : Type 0} where
  -- the list with this number
  abbrev pub Stands : List (List S) → ℕ → List S → Type 0
  Stands ps n p = slice_get ps n ≡ Some p

  -- the lists, or these with one more behind them, where it wasn't among them
  abbrev pub IsGrownBy : List (List S) → List S → List (List S) → Type 0
  IsGrownBy ps p qs = (qs ≡ ps) ⊎ (qs ≡ ps ++ p ∷ [])

  -- each list stands there once, begun by the empty one, and with it all that it begins with
  pub record IsClosed (ps : List (List S)) : Type 0 where
    pub empty : Stands ps 0 []
    pub before : (n : ℕ) (p : List S) (x : S) → Stands ps n (p ++ x ∷ []) → (m : ℕ) × Stands ps m p
    pub once : (m n : ℕ) (p : List S) → Stands ps m p → Stands ps n p → m ≡ n

  -- no list is shorter than one before it
  abbrev pub Rises : List (List S) → Type 0
  Rises ps = (m n : ℕ) (p q : List S) → Stands ps m p → Stands ps n q → m ≤ n → length p ≤ length q

-- the lists, and for each edge in turn one more: the list with the edge's number, and its step behind it
abbrev pub grown : List (List Step) → List Edge → List (List Step)
grown ps [] = ps
grown ps (e ∷ es) = grown (ps ++ (slice_index_or ps e.from [] ++ e.step ∷ []) ∷ []) es

abbrev pub lists_of : List Edge → List (List Step)
lists_of es = grown ([] ∷ []) es

-- edges that lead from lists of smaller numbers, none of them twice
pub record IsTree (edges : List Edge) : Type 0 where
  pub from : (k : ℕ) (e : Edge) → slice_get edges k ≡ Some e → e.from ≤ k
  pub once : (j k : ℕ) (e : Edge) → slice_get edges j ≡ Some e → slice_get edges k ≡ Some e → j ≡ k
