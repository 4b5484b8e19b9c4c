-- Ways whose pieces were compared with those of before.
use Rattle.std.proofs.Common.{inl, inr, ℕ, List, [], ◌∷◌, ◌++◌, Contains, sym, subst}
use Rattle.road_base.specs.declared.ids.WayId.{WayId}
use Rattle.road_model.specs.declared.lists.Piece.{Piece}
use Rattle.road_model.specs.declared.lists.PieceName.{PieceName}
use Rattle.ordered_lists.proofs.ListMembers.{contains_from_in, in_from_contains, contains_more}
use Rattle.ordered_lists.proofs.ListMembers.{in_left, in_end}

-- what is said of each of the ways that isn't among the altered ones
abbrev pub AreSame : (WayId → Type 0) → List WayId → List WayId → Type 0
AreSame Same ways altered = (w : WayId) → Contains ways w → (Contains altered w → ⊥) → Same w

-- one way more, which is the same
pub more_same : (Same : WayId → Type 0) (ways altered : List WayId) (way : WayId) → AreSame Same ways altered → Same way
    → AreSame Same (ways ++ way ∷ []) altered
more_same Same ways altered way all is w has not = elim (contains_more ways way w has)
    [ inl before ↦ all w before not | inr same ↦ subst Same (sym same) is ]

-- one way more, which is among the altered ones
pub more_altered : (Same : WayId → Type 0) (ways altered : List WayId) (way : WayId) → AreSame Same ways altered
    → AreSame Same (ways ++ way ∷ []) (altered ++ way ∷ [])
more_altered Same ways altered way all w has not = elim (contains_more ways way w has) [
  | inl before ↦ all w before (λ h. not (contains_from_in (altered ++ way ∷ []) w
      (in_left altered (way ∷ []) w (in_from_contains altered w h))))
  | inr same ↦ absurd (not (subst (λ x. Contains (altered ++ way ∷ []) x) (sym same)
      (contains_from_in (altered ++ way ∷ []) way (in_end altered way []))))
]

-- the name and the end of a piece
abbrev named : Piece → PieceName × ℕ
named p = (p.name, p.end)
