-- Plain positions, pieces and their spelling.
use Rattle.std.specs.Prelude.{◌≡◌, ◌≢◌, ℕ, ◌+◌, ◌-◌, ◌<◌, ◌≤◌, List, ◌∷◌, length, Some, IsTrue, IsFalse, slice_get}
use Rattle.road_base.specs.declared.ids.NodeId.{NodeId}
use Rattle.road_base.specs.declared.ids.WayId.{WayId}
use Rattle.road_base.specs.declared.ids.Step.{Step}
use Rattle.road_base.specs.declared.ids.Dir.{Dir}
use Rattle.road_base.specs.Objects.{Objects}
use Rattle.road_model.specs.Rules.{Rules}
use Rattle.road_model.specs.Lines.{line_of, node_at, steps_from}
use Rattle.road_model.specs.Driving.{is_road, located, shut, turning_place, drivable}

-- position i of a road's line is plain; every other position of a road's line is a junction
pub record IsPlain (M : Objects) (P : Rules) (w : WayId) (i : ℕ) : Type 0 where
  pub road : IsTrue (is_road M P w)
  pub not_first : 0 < i
  pub not_last : i + 1 < length (line_of M w)
  pub node : NodeId
  pub is : node_at M w i ≡ Some node
  pub before : IsTrue (located M (node_at M w (i - 1)))
  pub here : IsTrue (located M (Some node))
  pub behind : IsTrue (located M (node_at M w (i + 1)))
  pub apart : node_at M w (i - 1) ≢ node_at M w (i + 1)
  pub alone : (v : WayId) (j : ℕ) → IsTrue (is_road M P v) → node_at M v j ≡ Some node → (v ≡ w) × (j ≡ i)
  pub not_shut : IsFalse (shut M P node)
  pub no_turning : IsFalse (turning_place M P node)

-- a way, two positions of its line, and a direction: what may be a piece
pub record Span : Type 0 where
  pub way : WayId
  pub index : ℕ
  pub end : ℕ
  pub dir : Dir

-- two junction positions with only plain ones between, and a direction in which all steps are drivable
pub record IsPiece (M : Objects) (P : Rules) (p : Span) : Type 0 where
  pub ascends : p.index < p.end
  pub first : IsPlain M P p.way p.index → ⊥
  pub last : IsPlain M P p.way p.end → ⊥
  pub inner : (k : ℕ) → p.index < k → k < p.end → IsPlain M P p.way k
  pub drives : (k : ℕ) → p.index ≤ k → k < p.end
      → IsTrue (drivable M P (record { way = p.way; index = k; dir = p.dir }))

abbrev pub spell : Span → List Step
spell p = steps_from p.way p.index (p.end - p.index) p.dir

-- the step stands at place k of the piece's spelling
pub record StandsAt (M : Objects) (P : Rules) (s : Step) (p : Span) (k : ℕ) : Type 0 where
  pub piece : IsPiece M P p
  pub at : slice_get (spell p) k ≡ Some s

-- the step stands in the spelling of exactly one piece, once
pub record IsInOnePiece (M : Objects) (P : Rules) (s : Step) : Type 0 where
  pub piece : Span
  pub place : ℕ
  pub stands : StandsAt M P s piece place
  pub only : (q : Span) (k : ℕ) → StandsAt M P s q k → (q ≡ piece) × (k ≡ place)

-- the step is the first one of a piece
pub record BeginsPiece (M : Objects) (P : Rules) (s : Step) : Type 0 where
  pub piece : Span
  pub is : IsPiece M P piece
  pub more : List Step
  pub begins : spell piece ≡ s ∷ more
