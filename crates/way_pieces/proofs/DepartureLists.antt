-- Departures: what they are, and over which ways one departs.
use Rattle.std.proofs.Common.{◌≡◌, ℕ, slice_get, Some, IsTrue, refl, sym, ap, subst, ◌∙◌}
use Rattle.road_base.specs.declared.ids.NodeId.{NodeId}
use Rattle.road_base.specs.declared.ids.WayId.{WayId}
use Rattle.road_base.specs.Objects.{Objects}
use Rattle.road_model.specs.declared.lists.PieceName.{PieceName}
use Rattle.road_model.specs.Rules.{Rules}
use Rattle.road_model.specs.Lines.{node_at, tail_position}
use Rattle.road_model.specs.Driving.{is_road, drivable}
use Rattle.road_model.specs.Pieces.{spell}
use Rattle.road_model.specs.Links.{RefersTo}
use Rattle.way_pieces.specs.declared.departures.Departure.{Departure}
use Rattle.way_pieces.specs.Names.{IsNameFrom, IsDeparture}
use Rattle.way_pieces.specs.Departures.{IsOver}
use Rattle.way_pieces.proofs.FirstSteps.{stands, step_drives, head_there, front}
use Rattle.way_pieces.proofs.DrivenSteps.{drivable_parts, end_node, open_road}

module _ (M : Objects) (P : Rules) (v : NodeId) where
  module _ (d : Departure) (dep : IsDeparture M P v d) where
    at_first : slice_get (spell dep.piece) 0 ≡ Some d.first
    at_first = ap (λ l. slice_get l 0) dep.begins

    drives : IsTrue (drivable M P d.first)
    drives = step_drives M P dep.piece dep.is d.first 0 at_first

    way_is : d.first.way ≡ (dep.piece).way
    way_is = (stands M P dep.piece dep.is d.first 0 at_first).way

    -- the name is of the first step's way
    pub name_way : d.piece.way ≡ d.first.way
    name_way = ap (λ n. n.way) dep.named ∙ sym way_is

  -- one departs over a road
  over_road : (w : WayId) (z : Departure) → IsOver M P v w z → IsTrue (is_road M P w)
  over_road w z over = subst (λ u. IsTrue (is_road M P u)) over.0
      (open_road M P z.first.way z.first.dir (drivable_parts M P z.first (drives z over.1)).0)

-- each name of a piece that leaves the node is that of a departure
pub departs : (M : Objects) (P : Rules) (v : NodeId) (n : PieceName) → IsNameFrom M P v n
    → (d : Departure) × (IsDeparture M P v d × (n ≡ d.piece))
departs M P v n is =
    let toward = head_there M P is.first (step_drives M P is.piece is.is is.first 0 is.begins) in
    let more = front (spell is.piece) is.first is.begins in (
      record { piece = n; first = is.first; toward = toward.0 },
      (
        record {
          piece = is.piece;
          is = is.is;
          named = is.named;
          more = more.0;
          begins = more.1;
          leaves = is.leaves;
          toward = toward.1;
        },
        refl,
      ),
    )

module _ (M : Objects) (P : Rules) (v : NodeId) where
  -- where a road refers to the nodes that it passes, the departure's way refers to the node
  pub passes : (z : Departure) → IsDeparture M P v z
      → ((w : WayId) (i : ℕ) (u : NodeId) → IsTrue (is_road M P w) → node_at M w i ≡ Some u → RefersTo M w u)
      → RefersTo M z.first.way v
  passes z dep law =
      let at = tail_position z.first.dir z.first.index in
      law z.first.way at v (over_road M P v z.first.way z (refl, dep)) (end_node M z.first at v dep.leaves)
