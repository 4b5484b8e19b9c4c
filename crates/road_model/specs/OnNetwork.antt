-- What is said of the object map and the rules of a network.
use Rattle.std.specs.Prelude.{⊤}
use Rattle.road_base.specs.Objects.{Objects}
use Rattle.road_model.specs.Rules.{Rules}

-- there are an object map and rules
pub record AreObjectsAndRules (M : Objects) (P : Rules) : Type 0 where
  pub some : ⊤
