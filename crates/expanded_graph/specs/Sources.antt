-- The arcs that lead to the contexts of a piece.
use Rattle.std.specs.Prelude.{◌≡◌, ◌↔◌, ◌⊎◌, ℕ, Bool, List, [], ◌∷◌, ◌++◌, map, Some, slice_get, Contains}
use Rattle.std.specs.Ordering.{is_eq}
use Rattle.road_base.specs.declared.ids.Step.{Step}
use Rattle.road_base.specs.Objects.{Objects}
use Rattle.road_model.specs.declared.lists.PieceName.{PieceName}
use Rattle.road_model.specs.Rules.{Rules}
use Rattle.road_model.specs.Pieces.{Span, IsPiece}
use Rattle.road_model.specs.Network.{IsContext, IsArc}
use Rattle.road_model.specs.Turning.{HasTurnSteps}
use Rattle.road_model.specs.Orders.{names_cmp}
use Rattle.road_model.specs.Blocks.{name_of}
use Rattle.expanded_graph.specs.declared.sources.Leading.{Leading}

-- the context of these pieces and q is the one that ends in the state with number n, of states with these lists
pub record EndsIn (M : Objects) (P : Rules) (states : List (List Step)) (q : Span) (n : ℕ) (before : List Span) : Type 0
  where
    pub context : IsContext M P (before ++ q ∷ [])
    pub steps : List Step
    pub at : slice_get states n ≡ Some steps
    pub turn : HasTurnSteps (before ++ q ∷ []) steps

-- an arc by piece p from context c: the names that its target has before p, and those of c
pub record IsLeadingOf (M : Objects) (P : Rules) (c : List Span) (p : Span) (l : Leading) : Type 0 where
  pub before : List Span
  pub arc : IsArc M P c p (before ++ p ∷ [])
  pub target : l.before ≡ map name_of before
  pub named : l.source ≡ map name_of c

-- an arc by piece p from a context that ends with piece q
pub record IsLeadingBehind (M : Objects) (P : Rules) (q p : Span) (l : Leading) : Type 0 where
  pub front : List Span
  pub leads : IsLeadingOf M P (front ++ q ∷ []) p l

-- an arc by piece p
pub record IsLeading (M : Objects) (P : Rules) (p : Span) (l : Leading) : Type 0 where
  pub from : List Span
  pub leads : IsLeadingOf M P from p l

-- exactly the arcs by piece p
abbrev pub AreLeadingBy : Objects → Rules → Span → List Leading → Type 0
AreLeadingBy M P p ls = (l : Leading) → Contains ls l ↔ IsLeading M P p l

-- exactly the arcs by the piece of that name
abbrev pub AreLeading : Objects → Rules → PieceName → List Leading → Type 0
AreLeading M P name ls = (p : Span) → IsPiece M P p → name ≡ name_of p → AreLeadingBy M P p ls

-- the list has got those for which the fact holds, and nothing else, beside those that it had
abbrev pub Gains : (Leading → Type 0) → List Leading → List Leading → Type 0
Gains Is old new = (l : Leading) → Contains new l ↔ (Contains old l ⊎ Is l)

-- whether the two lists of names are one
abbrev pub same_names : List PieceName → List PieceName → Bool
same_names a b = is_eq (names_cmp a b)

-- arcs from one context are one
abbrev pub AreOneBySource : List Leading → Type 0
AreOneBySource ls = (a b : Leading) → Contains ls a → Contains ls b → a.source ≡ b.source → a ≡ b
