-- What keys have once pairs are gone and others have come.
use Rattle.std.specs.Prelude.{◌↔◌, ◌⊎◌, List, Contains}
use Rattle.std.specs.declared.cmp.Ordering.{Ordering}
use Rattle.layered_maps.specs.Lists.{Held, Has}

-- a pair that came is there, and one that was there is if it isn't gone
abbrev pub Stays : {A : Type 0} → Type 0 → List A → List A → A → Type 0
Stays Before gone come p = (Before × ¬ (Contains gone p)) ⊎ Contains come p

-- one thing where the condition holds, else the other
abbrev pub IsChosen : Type 0 → Type 0 → Type 0 → Type 0
IsChosen Condition This That = (Condition × This) ⊎ ((¬ Condition) × That)

-- the second has at these keys what the first has, without the pairs that are gone and with those that came, and at all
-- others what the first has
abbrev pub IsExchangedAt : {K V : Type 0} → (K → K → Ordering) → List K → Held K V → List (K × V) → List (K × V)
    → Held K V → Type 0
IsExchangedAt {K} {V} R keys old gone come new = (k : K) (v : V) → Has R new k v
    ↔ IsChosen (Contains keys k) (Stays (Has R old k v) gone come (k, v)) (Has R old k v)

-- the second has what the first has, without the pairs that are gone and with those that came
abbrev pub IsExchanged : {K V : Type 0} → (K → K → Ordering) → Held K V → List (K × V) → List (K × V) → Held K V
    → Type 0
IsExchanged {K} {V} R old gone come new = (k : K) (v : V) → Has R new k v ↔ Stays (Has R old k v) gone come (k, v)
