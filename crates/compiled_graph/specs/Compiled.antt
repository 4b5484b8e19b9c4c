-- What events compile to.
use Rattle.std.specs.Prelude.{ℕ, List}
use Rattle.std.specs.FinMap.{empty}
use Rattle.road_base.specs.declared.event.Event.{Event}
use Rattle.road_base.specs.Objects.{Objects}
use Rattle.road_base.specs.Applying.{IsApplied}
use Rattle.road_model.specs.Rules.{Rules}
use Rattle.road_model.specs.Walks.{AreWalked}
use Rattle.road_model.specs.Format.{IsGraph}
use Rattle.graph_file.specs.WalkedFiles.{IsWalkedFile}
use Rattle.zone_files.specs.ZoneFileWalks.{IsZoneFile}

-- `out` is the rules' graph of the objects that the events leave; the walks over these are the drives that may be
-- driven there, and whoever reads the bytes by the grammar and walks over what stands there makes exactly these walks,
-- and by the marks that stand there exactly those that go through no zone
pub record IsGraphOf (P : Rules) (events : List Event) (out : List ℕ) : Type 0 where
  pub objects : Objects
  pub applied : IsApplied empty events objects
  pub graph : IsGraph objects P out
  pub walks : AreWalked objects P
  pub file : IsWalkedFile objects P out
  pub zones : IsZoneFile objects P out
