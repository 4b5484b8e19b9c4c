-- What is asked of a search from one node to another over contexts and arcs.
use Rattle.std.specs.Prelude.{◌≡◌, ℕ, ◌+◌, ◌-◌, ◌≤◌, List, [], ◌∷◌, ◌++◌, Some, Contains, slice_get, take, drop}
use Rattle.road_base.specs.declared.ids.NodeId.{NodeId}
use Rattle.road_base.specs.declared.ids.Step.{Step}
use Rattle.road_base.specs.Objects.{Objects}
use Rattle.road_model.specs.Rules.{Rules}
use Rattle.road_model.specs.Lines.{tail_of, head_of}
use Rattle.road_model.specs.Pieces.{Span, IsPiece, spell}
use Rattle.road_model.specs.Network.{IsArc, spell_pieces}
use Rattle.road_model.specs.Walks.{WalksTo}
use Rattle.context_search.specs.Reaching.{LeadsTo}

-- step k of the piece begins at the node
pub record BeginsAt (M : Objects) (p : Span) (k : ℕ) (v : NodeId) : Type 0 where
  pub step : Step
  pub at : slice_get (spell p) k ≡ Some step
  pub tail : tail_of M step ≡ Some v

-- step k of the piece ends at the node
pub record StopsAt (M : Objects) (p : Span) (k : ℕ) (v : NodeId) : Type 0 where
  pub step : Step
  pub at : slice_get (spell p) k ≡ Some step
  pub head : head_of M step ≡ Some v

-- the steps i to j of a piece
abbrev pub within_piece : Span → ℕ → ℕ → List Step
within_piece p i j = take (j + 1 - i) (drop i (spell p))

-- the first piece from step i on, whole pieces, and the last piece up to step j
abbrev pub along_pieces : Span → ℕ → List Span → Span → ℕ → List Step
along_pieces p i whole t j = drop i (spell p) ++ (spell_pieces whole ++ take (j + 1) (spell t))

-- a drive inside one piece
abbrev pub LeadsWithin : Objects → Rules → NodeId → NodeId → Type 0
LeadsWithin M P a b = (p : Span) (i j : ℕ) → IsPiece M P p → BeginsAt M p i a → StopsAt M p j b → i ≤ j
    → LeadsTo M P a b (within_piece p i j)

-- a drive over several pieces: those of a walk, and one more by an arc
abbrev pub LeadsAlong : Objects → Rules → NodeId → NodeId → Type 0
LeadsAlong M P a b = (p : Span) (i : ℕ) (whole c : List Span) (t : Span) (j : ℕ) (e : List Span)
    → WalksTo M P (p ∷ whole) c → IsArc M P c t e → BeginsAt M p i a → StopsAt M t j b
    → LeadsTo M P a b (along_pieces p i whole t j)

-- All contexts that can be come to are seen, and none of the ways to go on from them stops at b.
pub record IsSearched (M : Objects) (P : Rules) (a b : NodeId) (seen : List (List Span)) : Type 0 where
  pub starts : (p : Span) (i : ℕ) → IsPiece M P p → BeginsAt M p i a → Contains seen (p ∷ [])
  pub apart : (p : Span) (i j : ℕ) → IsPiece M P p → BeginsAt M p i a → StopsAt M p j b → i ≤ j → ⊥
  pub goes_on : (c : List Span) (t : Span) (e : List Span) → Contains seen c → IsArc M P c t e → Contains seen e
  pub misses : (c : List Span) (t : Span) (e : List Span) (j : ℕ)
      → Contains seen c → IsArc M P c t e → StopsAt M t j b → ⊥
