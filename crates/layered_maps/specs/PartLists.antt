-- Lists in parts, each of the same length but the last.
use Rattle.std.specs.Prelude.{◌≡◌, ◌<◌, ◌≤◌, ℕ, List, [], ◌∷◌, Option, Some, None, length, map, slice_get, slice_set}
use Rattle.std.specs.List.{flat_map}
use Rattle.std.specs.declared.rc.Rc.{Rc}
use Rattle.layered_maps.specs.Layers.{values_of}

-- the items of all parts, those of the first one first
abbrev pub joined : {A : Type 0} → List (List A) → List A
joined = flat_map (λ part. part)

-- the part has so many items, and if it is the last one at most so many
abbrev pub IsFull : {A : Type 0} → ℕ → List A → List (List A) → Type 0
IsFull n part [] = length part ≤ n
IsFull n part (x ∷ later) = length part ≡ n

-- each part does
abbrev pub AreFull : {A : Type 0} → ℕ → List (List A) → Type 0
AreFull n [] = Unit {0}
AreFull n (part ∷ later) = IsFull n part later × AreFull n later

-- each part has so many items
abbrev pub AreWhole : {A : Type 0} → ℕ → List (List A) → Type 0
AreWhole n [] = Unit {0}
AreWhole n (part ∷ later) = (length part ≡ n) × AreWhole n later

-- the list in parts, and the other one where there is none
abbrev pub lent_list : {A : Type 0} → List A → Option (List A) → List A
lent_list list None = list
lent_list list (Some parts) = parts

-- for each branch the leaves, as what they hold
abbrev pub leaf_lists : {A Y Z : Type 0} → List (Rc (List (Rc A Z)) Y) → List (List A)
leaf_lists = map (λ branch. values_of branch.value)

-- the value stands in the place of the one at this position of the leaf, and nothing else is changed
abbrev pub IsPutAt : {A : Type 0} → ℕ → ℕ → A → Option (List A) → List (List A) → List (List A) → Type 0
IsPutAt leaf at v None old new = ⊥
IsPutAt leaf at v (Some values) old new = (at < length values) × (new ≡ slice_set old leaf (slice_set values at v))

-- so it does in the leaf that stands there
abbrev pub IsPutIn : {A : Type 0} → ℕ → ℕ → A → List (List A) → List (List A) → Type 0
IsPutIn leaf at v old new = IsPutAt leaf at v (slice_get old leaf) old new
