-- The steps of a list of pieces that words look at.
use Rattle.std.specs.Prelude.{◌≡◌, List, [], ◌∷◌, ◌++◌}
use Rattle.road_base.specs.declared.ids.Step.{Step}
use Rattle.road_base.specs.Objects.{Objects}
use Rattle.road_model.specs.declared.lists.PieceName.{PieceName}
use Rattle.road_model.specs.Rules.{Rules}
use Rattle.road_model.specs.Pieces.{Span, IsPiece, spell}
use Rattle.road_model.specs.Network.{AnyWord, spell_pieces}
use Rattle.road_model.specs.Blocks.{name_of}

-- the steps q of the pieces c, from the last step of the first piece on
pub record HasTurnSteps (c : List Span) (q : List Step) : Type 0 where
  pub first : Span
  pub others : List Span
  pub is : c ≡ first ∷ others
  pub front : List Step
  pub last : Step
  pub ends : spell first ≡ front ++ last ∷ []
  pub steps : q ≡ last ∷ spell_pieces others

-- q is a proper, non-empty beginning of a word
pub record BeginsWord (M : Objects) (P : Rules) (q : List Step) : Type 0 where
  pub some : q ≡ [] → ⊥
  pub next : Step
  pub more : List Step
  pub word : AnyWord M P (q ++ next ∷ more)

-- s is the last step of a piece of that name
pub record EndsPiece (M : Objects) (P : Rules) (s : Step) (n : PieceName) : Type 0 where
  pub piece : Span
  pub is : IsPiece M P piece
  pub named : n ≡ name_of piece
  pub front : List Step
  pub ends : spell piece ≡ front ++ s ∷ []
