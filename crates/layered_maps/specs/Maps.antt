-- A map with what has changed beside it.
use Rattle.std.specs.Prelude.{◌≡◌, List, [], ◌∷◌, Option, Some, None, map, Bool, cond, not, ◌&&◌, is_some}
use Rattle.std.specs.List.{flat_map}
use Rattle.std.specs.FinMap.{find, put}
use Rattle.std.specs.FinMap.Entries.{where_key}
use Rattle.std.specs.Ordering.{eq_by_cmp, is_lt}
use Rattle.std.specs.declared.cmp.Ordering.{Ordering}
use Rattle.std.specs.declared.rc.Rc.{Rc}
use Rattle.layered_maps.specs.declared.change.Change.{Change}
use Rattle.layered_maps.specs.declared.change.Change.TheVariants.{Put, Gone}

-- a value with its key
abbrev pub keyed : {K V : Type 0} → (V → K) → V → K × V
keyed key v = (key v, v)

-- the pairs without that of the key
abbrev pub without : {K V : Type 0} → (K → K → Ordering) → K → List (K × V) → List (K × V)
without R k pairs = where_key R (λ q. not (eq_by_cmp R q k)) pairs

-- the pairs with the value at the key, and without the key where there is no value
abbrev pub changed_at : {K V : Type 0} → (K → K → Ordering) → K → Option V → List (K × V) → List (K × V)
changed_at R k None pairs = without R k pairs
changed_at R k (Some v) pairs = put R k v pairs

-- the pairs with what has changed over them: at each of its keys what it has there, the first of the list last
abbrev pub over : {K V : Type 0} → (K → K → Ordering) → List (K × Option V) → List (K × V) → List (K × V)
over R [] pairs = pairs
over R (p ∷ more) pairs = changed_at R p.0 p.1 (over R more pairs)

-- the key of a change, and the value that it has then, if any
abbrev pub change_pair : {K V : Type 0} → (V → K) → Change K V → K × Option V
change_pair key (Put v) = (key v, Some v)
change_pair key (Gone k) = (k, None)

-- what the changes leave of the pairs
abbrev pub changed_by : {K V : Type 0} → (V → K) → (K → K → Ordering) → List (Change K V) → List (K × V) → List (K × V)
changed_by key R changes pairs = over R (map (change_pair key) changes) pairs

-- each value stands at its own key
abbrev pub AreKeyed : {K V : Type 0} → (V → K) → (K → K → Ordering) → List (K × Option V) → Type 0
AreKeyed {K} {V} key R pairs = (k : K) (v : V) → find R k pairs ≡ Some (Some v) → key v ≡ k

-- the pairs with the value in the place of its key's, where they have one of the key
abbrev pub replaced : {K V : Type 0} → (V → K) → (K → K → Ordering) → V → List (K × V) → List (K × V)
replaced key R v pairs = cond (is_some (find R (key v) pairs)) (put R (key v) v pairs) pairs

-- with each of the values, the first of the list last
abbrev pub replaced_by : {K V : Type 0} → (V → K) → (K → K → Ordering) → List V → List (K × V) → List (K × V)
replaced_by key R [] pairs = pairs
replaced_by key R (v ∷ more) pairs = replaced key R v (replaced_by key R more pairs)

-- whether the pair comes into the floor: it has a value, its key stands in the floor, and in nothing over it
abbrev pub sinks : {K V : Type 0} → (K → K → Ordering) → List (K × Option V) → List (K × V) → K × Option V → Bool
sinks R layers floor p = is_some p.1 && (not (is_some (find R p.0 layers)) && is_some (find R p.0 floor))

-- whether it doesn't
abbrev pub stays : {K V : Type 0} → (K → K → Ordering) → List (K × Option V) → List (K × V) → K × Option V → Bool
stays R layers floor p = not (sinks R layers floor p)

-- the value, if it is to be told
abbrev pub sunk_of : {V : Type 0} → Bool → Option V → List V
sunk_of b None = []
sunk_of b (Some v) = cond b (v ∷ []) []

-- the values of the pairs that come into the floor
abbrev pub sunk : {K V : Type 0} → (K → K → Ordering) → List (K × Option V) → List (K × V) → List (K × Option V)
    → List V
sunk R layers floor run = flat_map (λ p. sunk_of (sinks R layers floor p) p.1) run

-- the pairs of a floor, and none where there is none
abbrev pub floor_pairs : {K V Z : Type 0} → Option (Rc (List (K × V)) Z) → List (K × V)
floor_pairs None = []
floor_pairs (Some floor) = floor.value

-- the pairs of what lies over a floor, and none where nothing does
abbrev pub layer_pairs : {A : Type 0} → Option (List A) → List A
layer_pairs None = []
layer_pairs (Some layers) = layers

-- the pairs whose keys aren't below this one
abbrev pub from_key : {K V : Type 0} → (K → K → Ordering) → K → List (K × V) → List (K × V)
from_key R k pairs = where_key R (λ q. not (is_lt (R q k))) pairs
