-- Whether one may drive from one node to another through no zone.
use Rattle.std.specs.Prelude.{◌≡◌, ◌⊎◌, List, Some, IsTrue, IsFalse}
use Rattle.road_base.specs.declared.ids.NodeId.{NodeId}
use Rattle.road_base.specs.declared.ids.Step.{Step}
use Rattle.road_base.specs.Objects.{Objects}
use Rattle.road_model.specs.Rules.{Rules}
use Rattle.road_model.specs.Driving.{located}
use Rattle.context_search.specs.declared.found.Found.{Found}
use Rattle.context_search.specs.declared.found.Found.TheVariants.{Drive, NoNode, Nowhere}
use Rattle.context_search.specs.Reaching.{LeadsTo}
use Rattle.destination_drives.specs.Zones.{Through}

-- a legal drive from a to b that goes through no zone
pub record ZoneLeadsTo (M : Objects) (P : Rules) (a b : NodeId) (d : List Step) : Type 0 where
  pub leads : LeadsTo M P a b d
  pub not_through : Through M P d → ⊥

-- Some such drive; or the first of the two nodes that isn't visible or has no location; or that both have one, and
-- there is no such drive.
abbrev pub IsZoneFound : Objects → Rules → NodeId → NodeId → Found → Type 0
IsZoneFound M P a b (Drive d) = ZoneLeadsTo M P a b d
IsZoneFound M P a b (NoNode v) = IsFalse (located M (Some v)) × ((v ≡ a) ⊎ ((v ≡ b) × IsTrue (located M (Some a))))
IsZoneFound M P a b Nowhere = IsTrue (located M (Some a)) × IsTrue (located M (Some b))
    × ((d : List Step) → ZoneLeadsTo M P a b d → ⊥)
