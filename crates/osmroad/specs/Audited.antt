-- What events give an audit of.
use Rattle.std.specs.Prelude.{ℕ, List}
use Rattle.std.specs.FinMap.{empty}
use Rattle.road_base.specs.declared.event.Event.{Event}
use Rattle.road_base.specs.Objects.{Objects}
use Rattle.road_base.specs.Applying.{IsApplied}
use Rattle.road_model.specs.Rules.{Rules}
use Rattle.osmroad.specs.Audit.{IsAudit}

-- `out` is the audit of the objects that the events leave, under the rules
pub record IsAuditOf (P : Rules) (events : List Event) (out : List ℕ) : Type 0 where
  pub objects : Objects
  pub applied : IsApplied empty events objects
  pub audit : IsAudit objects P out
