-- Which values each key has: pairs of a floor, and lists that stand in their place.
use Rattle.std.specs.Prelude.{◌≡◌, List, [], Option, Some, None, Contains, IsTrue}
use Rattle.std.specs.FinMap.{find}
use Rattle.std.specs.List.{flat_map}
use Rattle.std.specs.Ordering.{ordering_then}
use Rattle.std.specs.declared.cmp.Ordering.{Ordering}
use Rattle.std.specs.declared.rc.Rc.{Rc}
use Rattle.ordered_lists.specs.Orders.{rises}

-- by the first part, then by the second
abbrev pub pair_cmp : {A B : Type 0} → (A → A → Ordering) → (B → B → Ordering) → A × B → A × B → Ordering
pair_cmp R S p q = ordering_then (R p.0 q.0) (S p.1 q.1)

-- pairs of a key and a value, and for some keys the list that stands in their place
abbrev pub Held : Type 0 → Type 0 → Type 0
Held K V = List (K × V) × List (K × List V)

-- the value is in the list, where there is one, and else the other thing holds
abbrev pub IsAmong : {V : Type 0} → Option (List V) → V → Type 0 → Type 0
IsAmong None v Else = Else
IsAmong (Some values) v Else = Contains values v

-- the key has the value
abbrev pub Has : {K V : Type 0} → (K → K → Ordering) → Held K V → K → V → Type 0
Has R held k v = IsAmong (find R k held.1) v (Contains held.0 (k, v))

-- the lists ascend
abbrev pub Ascend : {K V : Type 0} → (K → K → Ordering) → (V → V → Ordering) → List (K × List V) → Type 0
Ascend {K} {V} R S lists = (k : K) (values : List V) → find R k lists ≡ Some values → IsTrue (rises S values)

-- the pairs of a floor, and none where there is none
abbrev pub floor_list : {K V Z : Type 0} → Option (Rc (List (K × V)) Z) → List (K × V)
floor_list None = []
floor_list (Some floor) = floor.value

-- the list, and no values where there is none
abbrev pub list_or_none : {V : Type 0} → Option (List V) → List V
list_or_none None = []
list_or_none (Some list) = list

-- the lists of all runs, those of the first run first
abbrev pub lists_in : {K V : Type 0} → List (List (K × List V)) → List (K × List V)
lists_in = flat_map (λ run. run)
