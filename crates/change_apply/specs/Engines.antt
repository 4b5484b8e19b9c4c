-- What contracts see of an engine, and the blocks of some ways.
use Rattle.std.specs.Prelude.{◌≡◌, ◌↔◌, ◌⊎◌, ℕ, ◌+◌, ◌≤◌, List, Option, Some, Contains, length, refl, true}
use Rattle.std.specs.Coded.{Coded, code_by, coded×}
use Rattle.std.specs.FinMap.{FinMap, get}
use Rattle.road_base.specs.declared.ids.WayId.{WayId}
use Rattle.road_base.specs.declared.event.Event.{Event}
use Rattle.road_base.specs.Objects.{Objects}
use Rattle.road_base.specs.Applying.{IsApplied}
use Rattle.object_store.specs.Codes.{coded_objects}
use Rattle.road_model.specs.declared.blocks.Block.{Block}
use Rattle.road_model.specs.Rules.{Rules}
use Rattle.road_model.specs.Orders.{way_cmp}
use Rattle.road_model.specs.Blocks.{IsRoadBlock}
use Rattle.road_model.specs.Links.{AreTouched}
use Rattle.road_model.specs.Format.{IsBlockForm}

-- the profile, and the object map that it has come to
pub record Followed (P : Type 0) : Type 0 where
  pub profile : P
  pub world : Objects

-- by which a proof tells two of them apart
abbrev pub coded_followed : {P : Type 0} → Coded P → Coded (Followed P)
coded_followed {P} coded = code_by (P × Objects) (coded× coded coded_objects) (λ f. (f.profile, f.world))
    (λ p. record { profile = p.0; world = p.1 }) (λ _. refl)

-- the map has exactly the blocks of those of the ways that have pieces, each at its way
abbrev pub AreBlocksAmong : Objects → Rules → List WayId → FinMap way_cmp Block → Type 0
AreBlocksAmong M P ways m = (w : WayId) (b : Block)
    → (get m w ≡ Some b) ↔ (Contains ways w × (b.way ≡ w) × IsRoadBlock M P b)

-- what stands at a way: its block, and nothing where it has no pieces
abbrev pub IsBlockAt : Objects → Rules → WayId → Option Block → Type 0
IsBlockAt M P w at = (b : Block) → (at ≡ Some b) ↔ ((b.way ≡ w) × IsRoadBlock M P b)

-- each of the blocks has the form in which a graph file with sources holds it
abbrev pub AreInForm : (WayId → Option Block) → Type 0
AreInForm at = (w : WayId) (b : Block) → at w ≡ Some b → IsBlockForm true b

-- the blocks of all ways with pieces, each at its way, as a graph file holds them
pub record AreKept (M : Objects) (P : Rules) (at : WayId → Option Block) : Type 0 where
  pub blocks : (w : WayId) → IsBlockAt M P w (at w)
  pub forms : AreInForm at

-- the ways that a change touches, with what it leaves
pub record Touches (M : Objects) (events : List Event) : Type 0 where
  pub after : Objects
  pub applied : IsApplied M events after
  pub ways : List WayId
  pub touched : AreTouched M after ways

-- No block was built, or no more than there are ways that the change touches.
abbrev pub BuildsTouched : Objects → List Event → ℕ → ℕ → Type 0
BuildsTouched M events old new =
    (new ≡ old) ⊎ ((touches : Touches M events) × (new ≤ old + length touches.ways))
