-- Roads that are open to destination traffic alone, and drives that go through none of them (OSM wiki, Key:access,
-- destination).
use Rattle.std.specs.Prelude.{◌≡◌, List, ◌∷◌, ◌++◌, Bool, IsTrue, IsFalse}
use Rattle.road_base.specs.declared.ids.Step.{Step}
use Rattle.road_base.specs.Objects.{Objects}
use Rattle.road_model.specs.Rules.{Rules}
use Rattle.road_model.specs.Driving.{is_marked}
use Rattle.road_model.specs.Network.{Legal}

-- a zone step: its way is visible, and the profile marks the way's tags in the step's direction
abbrev pub is_zone_step : Objects → Rules → Step → Bool
is_zone_step M P s = is_marked M P s.way s.dir

-- something marked stands between two that aren't, in any distance
pub record PassesBy {S : Type 0} (mark : S → Bool) (d : List S) : Type 0 where
  pub before : List S
  pub from : S
  pub inward : List S
  pub marked : S
  pub outward : List S
  pub to : S
  pub behind : List S
  pub is : d ≡ before ++ from ∷ (inward ++ marked ∷ (outward ++ to ∷ behind))
  pub from_outside : IsFalse (mark from)
  pub inside : IsTrue (mark marked)
  pub to_outside : IsFalse (mark to)

-- a zone step of the drive stands between two steps of it that aren't zone steps
abbrev pub Through : Objects → Rules → List Step → Type 0
Through M P = PassesBy (is_zone_step M P)

-- a legal drive that goes through no zone
pub record Zoned (M : Objects) (P : Rules) (d : List Step) : Type 0 where
  pub legal : Legal M P d
  pub not_through : Through M P d → ⊥
