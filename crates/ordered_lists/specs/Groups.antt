-- Groups of items that lie one behind the other in one list.
use Rattle.std.specs.Prelude.{◌≡◌, ℕ, zero, suc, ◌-◌, ◌≤◌, List, [], ◌∷◌, length, take, drop}

-- the groups that end at these positions of the list, the first one beginning at `from`
abbrev pub groups_of : {T : Type 0} → ℕ → List T → List ℕ → List (List T)
groups_of from items [] = []
groups_of from items (end ∷ ends) = take (end - from) (drop from items) ∷ groups_of end items ends

-- the ends don't fall, and the last one is that of the list
abbrev pub AreEnds : {T : Type 0} → ℕ → List T → List ℕ → Type 0
AreEnds from items [] = from ≡ length items
AreEnds from items (end ∷ ends) = (from ≤ end) × AreEnds end items ends

-- where the group at a place begins: at `from`, or where the one before it ends
abbrev pub start_at : ℕ → List ℕ → ℕ → ℕ
start_at from ends zero = from
start_at from [] (suc place) = from
start_at from (end ∷ ends) (suc place) = start_at end ends place
