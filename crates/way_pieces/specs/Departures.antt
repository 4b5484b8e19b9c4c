-- The departures over one way from a node, and how a list gains them.
use Rattle.std.specs.Prelude.{◌≡◌, List, ◌++◌}
use Rattle.road_base.specs.declared.ids.NodeId.{NodeId}
use Rattle.road_base.specs.declared.ids.WayId.{WayId}
use Rattle.road_base.specs.Objects.{Objects}
use Rattle.road_model.specs.declared.lists.PieceName.{PieceName}
use Rattle.road_model.specs.Rules.{Rules}
use Rattle.ordered_lists.specs.Orders.{Lists}
use Rattle.road_model.specs.Orders.{name_cmp}
use Rattle.way_pieces.specs.declared.departures.Departure.{Departure}
use Rattle.way_pieces.specs.Names.{IsDeparture}

-- a departure from the node over the way
abbrev pub IsOver : Objects → Rules → NodeId → WayId → Departure → Type 0
IsOver M P v w d = (d.first.way ≡ w) × IsDeparture M P v d

-- the list has got exactly those that are asked for behind those that it had, by their names
pub record Gains {A : Type 0} (name : A → PieceName) (Is : A → Type 0) (old new : List A) : Type 0 where
  pub more : List A
  pub appended : new ≡ old ++ more
  pub listed : Lists name name_cmp Is more
