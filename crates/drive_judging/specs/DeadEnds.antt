-- Which drivable steps leave a node, and what is known of that while the ways there are gone over.
use Rattle.std.specs.Prelude.{◌≡◌, ◌⊎◌, ℕ, ◌<◌, List, Option, Some, Bool, true, Contains}
use Rattle.std.specs.BTreeMap.{BTreeMap, get}
use Rattle.road_base.specs.declared.ids.NodeId.{NodeId}
use Rattle.road_base.specs.declared.ids.WayId.{WayId}
use Rattle.road_base.specs.declared.ids.Step.{Step}
use Rattle.road_base.specs.Objects.{Objects}
use Rattle.road_model.specs.Rules.{Rules}
use Rattle.road_model.specs.Orders.{node_cmp}
use Rattle.road_model.specs.Driving.{Leaves}
use Rattle.road_model.specs.Links.{RefersTo}
use Rattle.drive_judging.specs.declared.dead_ends.Leaving.{Leaving}
use Rattle.drive_judging.specs.declared.dead_ends.Leaving.TheVariants.{Nothing, One, More}

-- two drivable steps leave the node
pub record TwoLeave (M : Objects) (P : Rules) (v : NodeId) : Type 0 where
  pub one : Step
  pub other : Step
  pub leaves : Leaves M P v one
  pub too : Leaves M P v other
  pub differ : one ≡ other → ⊥

-- of the steps of which the fact holds none leaves the node, or one alone, or more steps than one leave it
abbrev pub Fits : Objects → Rules → NodeId → (Step → Type 0) → Leaving → Type 0
Fits M P v Among Nothing = (u : Step) → Among u → Leaves M P v u → ⊥
Fits M P v Among (One s) = Leaves M P v s × ((u : Step) → Among u → Leaves M P v u → u ≡ s)
Fits M P v Among More = TwoLeave M P v

-- which drivable steps leave the node
abbrev pub IsLeaving : Objects → Rules → NodeId → Leaving → Type 0
IsLeaving M P v e = Fits M P v (Leaves M P v) e

abbrev pub leaving_in : BTreeMap NodeId Leaving → NodeId → Option Leaving
leaving_in known v = get node_cmp known v

-- what is known of nodes is so
abbrev pub AreLeaving : Objects → Rules → BTreeMap NodeId Leaving → Type 0
AreLeaving M P known = (v : NodeId) (e : Leaving) → leaving_in known v ≡ Some e → IsLeaving M P v e

-- ---- while the ways are gone over

-- of the steps of which the fact holds it is so, and all steps that leave the node lie on these ways
pub record IsNoted (M : Objects) (P : Rules) (ways : List WayId) (Among : Step → Type 0) (v : NodeId) (e : Leaving)
    : Type 0 where
  pub lie : (u : Step) → Leaves M P v u → Contains ways u.way
  pub fits : Fits M P v Among e

abbrev pub AreNoted : List WayId → (Step → Type 0) → BTreeMap NodeId Leaving → Objects → Rules → Type 0
AreNoted ways Among known M P = (v : NodeId) (e : Leaving) → leaving_in known v ≡ Some e → IsNoted M P ways Among v e

-- the steps of these ways
abbrev pub StepsOf : List WayId → Step → Type 0
StepsOf done u = Contains done u.way

-- and those of one way more below a position
abbrev pub StepsBelow : List WayId → WayId → ℕ → Step → Type 0
StepsBelow done w i u = Contains done u.way ⊎ ((u.way ≡ w) × (u.index < i))

-- what is known with a step more, which may be one of those before
abbrev pub IsWith : Leaving → Step → Leaving → Type 0
IsWith Nothing s e = e ≡ One s
IsWith (One t) s e = ((t ≡ s) × (e ≡ One t)) ⊎ ((t ≡ s → ⊥) × (e ≡ More))
IsWith More s e = e ≡ More

-- what is known of the node came from what was known, with the step where it is open and begins there
pub record IsAdded (opens : Bool) (s : Step) (tail : NodeId) (old : BTreeMap NodeId Leaving) (v : NodeId) (e : Leaving)
    : Type 0 where
  pub before : Leaving
  pub at : leaving_in old v ≡ Some before
  pub kept : ((opens ≡ true) × (tail ≡ v) → ⊥) → e ≡ before
  pub more : opens ≡ true → tail ≡ v → IsWith before s e

abbrev pub Adds : Bool → Step → NodeId → BTreeMap NodeId Leaving → BTreeMap NodeId Leaving → Type 0
Adds opens s tail old new = (v : NodeId) (e : Leaving) → leaving_in new v ≡ Some e → IsAdded opens s tail old v e

-- all that is known is that nothing was looked at, of these nodes
abbrev pub AreUnknown : List NodeId → BTreeMap NodeId Leaving → Type 0
AreUnknown nodes known = (v : NodeId) (e : Leaving) → leaving_in known v ≡ Some e → Contains nodes v × (e ≡ Nothing)

-- the ways that refer to one of the nodes are among these
abbrev pub HasWaysAt : List NodeId → List WayId → Objects → Type 0
HasWaysAt nodes ways M = (v : NodeId) (w : WayId) → Contains nodes v → RefersTo M w v → Contains ways w
