-- Over which pieces a drive leads.
use Rattle.std.specs.Prelude.{◌≡◌, ℕ, ◌≤◌, List, ◌∷◌}
use Rattle.road_base.specs.declared.ids.NodeId.{NodeId}
use Rattle.road_base.specs.declared.ids.Step.{Step}
use Rattle.road_base.specs.Objects.{Objects}
use Rattle.road_model.specs.Rules.{Rules}
use Rattle.road_model.specs.Pieces.{Span, IsPiece}
use Rattle.road_model.specs.Network.{IsArc}
use Rattle.road_model.specs.Walks.{WalksTo}
use Rattle.context_search.specs.Searching.{BeginsAt, StopsAt, within_piece, along_pieces}

-- the drive from a to b lies within one piece, or leads over the pieces of a walk and one more by an arc
pub data LiesOver (M : Objects) (P : Rules) (a b : NodeId) (d : List Step) : Type 0 where
  InOne : (p : Span) (i j : ℕ) → IsPiece M P p → BeginsAt M p i a → StopsAt M p j b → i ≤ j → d ≡ within_piece p i j
      → LiesOver M P a b d
  OnMany : (p : Span) (i : ℕ) (whole c : List Span) (t : Span) (j : ℕ) (e : List Span) → WalksTo M P (p ∷ whole) c
      → IsArc M P c t e → BeginsAt M p i a → StopsAt M t j b → d ≡ along_pieces p i whole t j → LiesOver M P a b d
