-- What a change of an engine costs, and what holds where no memory is found.
use Rattle.std.proofs.Common.{◌≡◌, ℕ, ◌+◌, ◌≤◌, true, false, List, Result, Ok, Err, IsErr, IfOk, OnOk, OnErr}
use Rattle.std.proofs.Common.{length, inr}
use Rattle.road_base.specs.declared.ids.WayId.{WayId}
use Rattle.road_base.specs.declared.event.Event.{Event}
use Rattle.road_base.specs.Objects.{Objects}
use Rattle.road_base.specs.Applying.{IsApplied}
use Rattle.road_model.specs.Links.{AreTouched}
use Rattle.change_apply.specs.Engines.{BuildsTouched}

-- where no memory is found, what comes at Ok doesn't
pub no_ok : {T E : Type 0} (A : Type 0) (r : Result T E) → IsErr r → OnOk r A
no_ok A (Ok x) e = let h : false ≡ true = e in absurd (cc)
no_ok A (Err x) e = tt

pub no_value : {T E : Type 0} (A : T → Type 0) (r : Result T E) → IsErr r → IfOk r A
no_value A (Ok x) e = let h : false ≡ true = e in absurd (cc)
no_value A (Err x) e = tt

pub at_err : {T E : Type 0} {A : Type 0} (r : Result T E) → A → OnErr r A
at_err (Ok x) a = tt
at_err (Err x) a = a

-- no more blocks are built than the change touches ways
pub builds : (M after : Objects) (events : List Event) (ways : List WayId) (old new : ℕ) → IsApplied M events after
    → AreTouched M after ways → new ≤ old + length ways → BuildsTouched M events old new
builds M after events ways old new applied touched few =
    inr (record { after = after; applied = applied; ways = ways; touched = touched }, few)
