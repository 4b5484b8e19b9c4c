-- What is told of a node: its rules with what leaves it, and what comes to it.
use Rattle.std.proofs.Common.{List}
use Rattle.road_base.specs.Objects.{Objects}
use Rattle.ordered_lists.specs.Orders.{Lists}
use Rattle.road_model.specs.Orders.{name_cmp}
use Rattle.road_model.specs.Rules.{Rules}
use Rattle.way_lines.specs.declared.node_rules.NodeRules.{NodeRules}
use Rattle.way_lines.specs.NodeTurns.{HasRules}
use Rattle.way_pieces.specs.declared.arrivals.Arrival.{Arrival}
use Rattle.way_pieces.specs.declared.departures.Departure.{Departure}
use Rattle.way_pieces.specs.Names.{IsDeparture, IsArrival}

abbrev pub HasLeaving : Objects → Rules → NodeRules → List Departure → Type 0
HasLeaving M P r ds = HasRules M P r × Lists (λ d. d.piece) name_cmp (IsDeparture M P r.node) ds

abbrev pub HasComing : Objects → Rules → NodeRules → List Arrival → Type 0
HasComing M P r cs = Lists (λ a. a.span.name) name_cmp (IsArrival M P r.node) cs
