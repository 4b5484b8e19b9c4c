-- What makes a position of a line plain, but for what the line does elsewhere.
use Rattle.std.specs.Prelude.{◌≡◌, ◌≢◌, ℕ, ◌+◌, ◌-◌, ◌<◌, List, Some, slice_get, is_some, IsTrue}
use Rattle.road_base.specs.declared.ids.NodeId.{NodeId}
use Rattle.road_base.specs.declared.ids.WayId.{WayId}
use Rattle.road_base.specs.Objects.{Objects}
use Rattle.road_model.specs.Rules.{Rules}
use Rattle.road_model.specs.Lines.{node_at}
use Rattle.road_model.specs.Driving.{is_road}
use Rattle.way_lines.specs.declared.road_line.LineNode.{LineNode}
use Rattle.junctions.specs.declared.plain.Neighbours.{Neighbours}

-- the position lies inside the line, and these are the nodes before it, there and behind it
pub record AreNeighbours (line : List LineNode) (i : ℕ) (n : Neighbours) : Type 0 where
  pub inside : 0 < i
  pub before : slice_get line (i - 1) ≡ Some n.before
  pub here : slice_get line i ≡ Some n.here
  pub behind : slice_get line (i + 1) ≡ Some n.behind

-- nothing about the nodes stops or turns who drives from the one before over the one here to the one behind
pub record MayPass (before here behind : LineNode) : Type 0 where
  pub near : IsTrue (is_some before.location)
  pub through : IsTrue here.goes_through
  pub far : IsTrue (is_some behind.location)
  pub apart : before.node ≢ behind.node

-- no road but the way passes the node
abbrev pub IsOnNoOther : Objects → Rules → WayId → NodeId → Type 0
IsOnNoOther M P w n = (v : WayId) (j : ℕ) → IsTrue (is_road M P v) → node_at M v j ≡ Some n → v ≡ w

-- one drives on at the node here, and no other road passes it
pub record IsPassed (M : Objects) (P : Rules) (w : WayId) (n : Neighbours) : Type 0 where
  pub may : MayPass n.before n.here n.behind
  pub no_other : IsOnNoOther M P w n.here.node
