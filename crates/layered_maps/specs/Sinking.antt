-- What a floor and what lies over it come to.
use Rattle.std.specs.Prelude.{◌≡◌, ℕ, List, Option, Some, None, drop}
use Rattle.std.specs.declared.cmp.Ordering.{Ordering}
use Rattle.layered_maps.specs.Maps.{AreKeyed, over, replaced_by}
use Rattle.layered_maps.specs.declared.sinking.Sinking.{Sinking}

-- if it is told what they come to, it is the same map, and what lies over the floor then stands at its keys; and the
-- map is the same where only the last of the values stand in the floor, under what lay over it before
abbrev pub IsSinking : {K V : Type 0} → (V → K) → (K → K → Ordering) → Option (Sinking K V) → List (K × Option V)
    → List (K × V) → Type 0
IsSinking key R None layers floor = Unit {0}
IsSinking key R (Some s) layers floor = AreKeyed key R s.layers
    × (over R s.layers (replaced_by key R s.values.items floor) ≡ over R layers floor)
    × ((n : ℕ) → over R layers (replaced_by key R (drop n s.values.items) floor) ≡ over R layers floor)
