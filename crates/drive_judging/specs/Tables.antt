-- The words that may bind a drive.
use Rattle.std.specs.Prelude.{◌≡◌, List, ◌∷◌, Contains}
use Rattle.road_base.specs.declared.ids.Step.{Step}
use Rattle.road_base.specs.Objects.{Objects}
use Rattle.road_model.specs.Rules.{Rules}
use Rattle.restrictions.specs.declared.word_list.Word.{Word}
use Rattle.restrictions.specs.Words.{IsWordOf}

-- the first of these steps is one of the drive
pub record BeginsOn (drive steps : List Step) : Type 0 where
  pub first : Step
  pub rest : List Step
  pub is : steps ≡ first ∷ rest
  pub driven : Contains drive first

-- the list has exactly the words whose first step is in the drive
pub record AreDriveWords (M : Objects) (P : Rules) (drive : List Step) (words : List Word) : Type 0 where
  pub each : (w : Word) → Contains words w → IsWordOf M P w.relation w × BeginsOn drive w.steps
  pub all : (w : Word) → IsWordOf M P w.relation w → BeginsOn drive w.steps → Contains words w
