-- When a change is far from a way, and what of a way's block it leaves.
use Rattle.std.specs.Prelude.{◌≡◌, ◌↔◌, ℕ, ◌⊎◌, List, [], ◌∷◌, ◌++◌}
use Rattle.road_base.specs.declared.ids.WayId.{WayId}
use Rattle.road_base.specs.declared.ids.Dir.{Dir}
use Rattle.road_base.specs.declared.ids.Key.{Key}
use Rattle.road_base.specs.declared.ids.Key.TheVariants.{Way as WayKey}
use Rattle.road_base.specs.Objects.{Objects}
use Rattle.road_model.specs.declared.lists.Place.{Place}
use Rattle.road_model.specs.Rules.{Rules}
use Rattle.road_model.specs.Links.{IsWithin, Differs}
use Rattle.road_model.specs.Driving.{is_marked}
use Rattle.road_model.specs.Pieces.{Span, IsPiece}
use Rattle.road_model.specs.Network.{IsContext, IsArc}
use Rattle.road_model.specs.Blocks.{IsPlaceOf}

-- how many links lead from a changed key to a way at most, if the change may alter its pieces, their marks and places,
-- their contexts or the arcs from these; what leads to these contexts is two links farther
abbrev pub forward_radius : ℕ
forward_radius = 6

-- no key whose visible body differs between M and N is within n links of the way, in M or in N
abbrev pub IsSameWithin : ℕ → Objects → Objects → WayId → Type 0
IsSameWithin n M N w = ((k : Key) × Differs M N k × (IsWithin M n k (WayKey w) ⊎ IsWithin N n k (WayKey w))) → ⊥

-- The way has the same pieces in M and in N, with the same marks and places, and these have the same contexts, from
-- which the same arcs lead: all that stands in its block but the sources.
pub record HasSameArcs (M N : Objects) (P : Rules) (w : WayId) : Type 0 where
  pub pieces : (p : Span) → p.way ≡ w → IsPiece M P p ↔ IsPiece N P p
  pub marks : (d : Dir) → is_marked M P w d ≡ is_marked N P w d
  pub places : (p : Span) (k : ℕ) (x : Place) → p.way ≡ w → IsPiece M P p → IsPlaceOf M p k x ↔ IsPlaceOf N p k x
  pub contexts : (before : List Span) (p : Span) → p.way ≡ w
      → IsContext M P (before ++ p ∷ []) ↔ IsContext N P (before ++ p ∷ [])
  pub arcs : (before : List Span) (p t : Span) (target : List Span) → p.way ≡ w
      → IsArc M P (before ++ p ∷ []) t target ↔ IsArc N P (before ++ p ∷ []) t target

-- the same arcs lead by the way's pieces in M and in N
abbrev pub HasSameSources : Objects → Objects → Rules → WayId → Type 0
HasSameSources M N P w = (from : List Span) (p : Span) (c : List Span) → p.way ≡ w
    → IsArc M P from p c ↔ IsArc N P from p c
