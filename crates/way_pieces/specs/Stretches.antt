-- Neighbouring junctions, and the pieces that may lie between them.
use Rattle.std.specs.Prelude.{
  ◌&&◌,
  ℕ,
  ◌<◌,
  Bool,
  false,
  cond,
  List,
  [],
  ◌∷◌,
  ◌++◌,
  Option,
  None,
  Some,
  is_some,
  slice_get,
}
use Rattle.road_base.specs.declared.ids.WayId.{WayId}
use Rattle.road_base.specs.declared.ids.Dir.{Dir}
use Rattle.road_base.specs.declared.ids.Dir.TheVariants.{Forward, Backward}
use Rattle.road_base.specs.Objects.{Objects}
use Rattle.road_model.specs.Rules.{Rules}
use Rattle.road_model.specs.Pieces.{Span, IsPlain}
use Rattle.junctions.specs.Junctions.{IsJunction}
use Rattle.way_lines.specs.declared.roads.Road.{Road}
use Rattle.way_lines.specs.declared.road_line.LineNode.{LineNode}
use Rattle.way_pieces.specs.declared.spans.PieceSpan.{PieceSpan}
use Rattle.way_pieces.specs.declared.stretches.Stretch.{Stretch}
use Rattle.way_pieces.specs.Names.{IsSpanOn}

-- two junction positions of the way with only plain ones between
pub record IsStretch (M : Objects) (P : Rules) (s : Stretch) : Type 0 where
  pub ascends : s.index < s.end
  pub first : IsJunction M P s.way s.index
  pub last : IsJunction M P s.way s.end
  pub inner : (k : ℕ) → s.index < k → k < s.end → IsPlain M P s.way k

-- what would be the piece there
abbrev pub piece_on : Stretch → Dir → Span
piece_on s d = record { way = s.way; index = s.index; end = s.end; dir = d }

-- the same as a span
abbrev pub span_on : Stretch → Dir → PieceSpan
span_on s d = record { name = record { way = s.way; index = s.index; dir = d }; end = s.end }

-- a piece of the way that begins below the position
abbrev pub IsSpanBelow : Objects → Rules → WayId → ℕ → PieceSpan → Type 0
IsSpanBelow M P w bound s = (s.name.index < bound) × IsSpanOn M P w s

-- the list, and the span behind it where it is wanted
abbrev pub added : List PieceSpan → Bool → PieceSpan → List PieceSpan
added spans wanted s = cond wanted (spans ++ s ∷ []) spans

-- the list, and behind it the spans in the directions in which the road is open
abbrev pub both_added : List PieceSpan → Road → Stretch → List PieceSpan
both_added spans r s = added (added spans r.forward (span_on s Forward)) r.backward (span_on s Backward)

-- there is a node, and it is located
abbrev pub is_located : Option LineNode → Bool
is_located None = false
is_located (Some n) = is_some n.location

-- the nodes of the line at both junctions are located
abbrev pub has_located_ends : List LineNode → Stretch → Bool
has_located_ends nodes s = is_located (slice_get nodes s.index) && is_located (slice_get nodes s.end)
